-- `door_sheet::sheet` meets its contract, turn by turn: proofs/Turns.antt.
use mathlib.Core.Path.{◌≡◌, refl, sym, subst}
use Prim.Native.Nat.{ℕ}
use native.Mathlib.Omega.{arith}
use native.Mathlib.Numerals.{add-one}
use lib.ListN.{length, set}
use Rattle.door_sheet.specs.Sheet as S
use Rattle.door_sheet.proofs.Turns.{Upto, upto_length, upto_next, upto_all}
use Rattle.door_sheet.proofs.sheet.Goals as goal

pub loop-r-preserved : goal.loop-r-preserved
loop-r-preserved c = let l = c.loop-r in
    rw (add-one l.r-index) (upto_next c.args.budget l.r-index _ l.records _ c.advance.result l.invariant (omega arith) c.advance.ensures)

pub returns : goal.returns
returns c = let l = c.loop-r in
    let e : l.r-index ≡ length c.args.records.now = omega arith in
    S.walked (c.beyond.ensures.no! c.if-beyond.false) refl
    (upto_all c.args.budget c.args.records.now l.records (subst (λ (k : ℕ). Upto c.args.budget k c.args.records.now l.records) e l.invariant))
