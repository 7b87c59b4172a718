-- `poly_divide::quotient_in` meets its contract: each turn is `dividing_turn`.
use mathlib.Core.Path.{◌≡◌, subst, sym}
use Prim.Native.Nat.{◌+◌, ◌≤◌, ◌<◌}
use native.Mathlib.Omega.{arith}
use lib.ListN.{length}
use Rattle.poly_rows.proofs.Division.{Dividing, dividing_start, dividing_digit, dividing_turn, dividing_end, exact_made}
use Rattle.poly_divide.proofs.quotient_in.Goals as goal

pub loop-k-init : goal.loop-k-init
loop-k-init c = let top = c.saturating_sub-top.result in
    let fx : c.args.a.len ≤ length c.args.a.row.now = c.requires.sa.fits in
    let lx : length c.args.a.row.now ≡ 32 = c.requires.inp.ha.size in
    let fy : c.args.b.len ≤ length c.args.b.row.now = c.requires.sb.fits in
    let ly : length c.args.b.row.now ≡ 32 = c.requires.inp.hb.size in
    subst (λ q. Dividing c.args.q.p c.args.a.row.now c.args.b.row.now c.args.il c.args.b.len top q top) (sym c.requires.blank) (dividing_start
    c.args.q.p c.args.a.row.now c.args.b.row.now c.args.il c.args.a.len c.args.b.len top c.requires.inp c.requires.sa c.requires.sb (omega arith) (omega arith))

pub quotient_coefficient-requires : goal.quotient_coefficient-requires
quotient_coefficient-requires c = dividing_digit c.requires.inp c.loop-k.invariant (omega arith) c.requires.modulus

pub loop-k-preserved : goal.loop-k-preserved
loop-k-preserved c = dividing_turn c.requires.inp c.loop-k.invariant (omega arith) _ c.quotient_coefficient.ensures

pub size_from-requires : goal.size_from-requires
size_from-requires c = let l = c.loop-k in
    let f : c.saturating_sub-top.result + c.args.b.len ≤ 33 = l.invariant.fits in
    let o : 0 < c.args.b.len = l.invariant.pos in
    record { size = l.invariant.hq.size; fits = omega arith; above = l.invariant.high }

pub returns : goal.returns
returns c = let q = dividing_end _ _ _ _ _ _ _ _ c.requires.inp c.loop-k.invariant (omega arith) in
    record { quotient = q; exact = exact_made _ _ _ _ _ c.requires.inp q; size = c.size_from.ensures }
