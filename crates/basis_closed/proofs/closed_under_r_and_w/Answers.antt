-- `basis_closed::closed_under_r_and_w` meets its contract: the rank, then U, M and N.
use mathlib.Core.Path.{refl, sym, ◌∙◌}
use mathlib.Core.Bool.{true≢false}
use native.Mathlib.Omega.{arith}
use Rattle.poly_rows.proofs.Leaf.{zeros_size}
use Rattle.basis_lattice.proofs.Lent.{as_lent}
use Rattle.basis_closed.specs.Closed.{ClosedOnAsks}
use Rattle.basis_closed.proofs.Closing.{zeros, lengths_in, no_rank, e_nonzero, zeros_short, keep, on_rows, no_U, no_M, of_N}
use Rattle.basis_closed.proofs.closed_under_r_and_w.Goals as goal
use Rattle.basis_closed.proofs.closed_under_r_and_w.Goals.{then-closed_on, else-closed_on}

pub lengths_of-l-requires : goal.lengths_of-l-requires
lengths_of-l-requires c = lengths_in c.requires refl

pub returns-then-l-eq0 : goal.returns-then-l-eq0
returns-then-l-eq0 c = no_rank c.requires c.lengths_of-l.ensures c.if-l-eq0.true

pub bounds-e-l : goal.bounds-e-l
bounds-e-l c = let s = c.lengths_of-l.ensures.det.size.fits in
    let z = c.lengths_of-l.ensures.det.is_row.size in
    omega (arith, s, z)

pub inverse-ie-requires : goal.inverse-ie-requires
inverse-ie-requires c = e_nonzero c.requires c.lengths_of-l.ensures c.if-l-eq0.false

pub size-lg-requires : goal.size-lg-requires
size-lg-requires c = c.requires.given.hg.is_row.size

pub size-lh-requires : goal.size-lh-requires
size-lh-requires c = c.requires.given.hh.is_row.size

pub size-lk-requires : goal.size-lk-requires
size-lk-requires c = c.requires.given.hgh.is_row.size

pub closed_on-requires : goal.closed_on-requires
closed_on-requires c = let i = c.requires in
    let f = c.lengths_of-l.ensures in
    let z = zeros_short i.given.modulus.big in
    as_lent c.lent_basis-k.ensures (λ b l e ie. ClosedOnAsks c.args.q c.args.g.now c.size-lg.result c.args.h.now c.size-lh.result c.args.gh.now c.size-lk.result b.u l.u zeros 0 zeros 0 b l e ie)
    (keep i f c.inverse-ie.ensures c.size-lg.ensures c.size-lh.ensures c.size-lk.ensures (i.room.rows 6) z z (f.sizes 6) zeros_size zeros_size)

pub closed_on-requires-then-closed_on : goal.closed_on-requires-then-closed_on
closed_on-requires-then-closed_on c = let i = c.requires in
    let f = c.lengths_of-l.ensures in
    let r = i.room.rows in
    as_lent c.lent_basis-k.ensures (λ b l e ie. ClosedOnAsks c.args.q c.args.g.now c.size-lg.result c.args.h.now c.size-lh.result c.args.gh.now c.size-lk.result b.m0 l.m0 b.m1 l.m1 b.m2 l.m2 b l e ie)
    (keep i f c.inverse-ie.ensures c.size-lg.ensures c.size-lh.ensures c.size-lk.ensures (r 0) (r 1) (r 2) (f.sizes 0) (f.sizes 1) (f.sizes 2))

pub closed_on-requires-then-closed_on-2 : goal.closed_on-requires-then-closed_on-2
closed_on-requires-then-closed_on-2 c = let i = c.requires in
    let f = c.lengths_of-l.ensures in
    let r = i.room.rows in
    as_lent c.lent_basis-k.ensures (λ b l e ie. ClosedOnAsks c.args.q c.args.g.now c.size-lg.result c.args.h.now c.size-lh.result c.args.gh.now c.size-lk.result b.n0 l.n0 b.n1 l.n1 b.n2 l.n2 b l e ie)
    (keep i f c.inverse-ie.ensures c.size-lg.ensures c.size-lh.ensures c.size-lk.ensures (r 3) (r 4) (r 5) (f.sizes 3) (f.sizes 4) (f.sizes 5))

pub returns-then-closed_on-2 : goal.returns-then-closed_on-2
returns-then-closed_on-2 c = elim c.if-closed_on.branch [
  | then-closed_on w ↦ of_N c.requires c.lengths_of-l.ensures (on_rows {o = c.closed_on.result} (λ b. b.u) (λ b. zeros) (λ b. zeros) c.lent_basis-k.ensures.rows c.closed_on.ensures) w.if-closed_on.true (on_rows {o = w.closed_on-then-closed_on.result} (λ b. b.m0) (λ b. b.m1) (λ b. b.m2) c.lent_basis-k.ensures.rows w.closed_on-then-closed_on.ensures) (sym w.value-is ∙ c.if-closed_on-2.true) c.if-l-eq0.false
      (on_rows {o = c.closed_on-then-closed_on-2.result} (λ b. b.n0) (λ b. b.n1) (λ b. b.n2) c.lent_basis-k.ensures.rows c.closed_on-then-closed_on-2.ensures)
  | else-closed_on w ↦ absurd (true≢false (sym c.if-closed_on-2.true ∙ (w.value-is ∙ w.if-closed_on.false)))
]

pub returns-else-closed_on-2 : goal.returns-else-closed_on-2
returns-else-closed_on-2 c = elim c.if-closed_on.branch [
  | then-closed_on w ↦ no_M c.requires c.lengths_of-l.ensures (on_rows {o = c.closed_on.result} (λ b. b.u) (λ b. zeros) (λ b. zeros) c.lent_basis-k.ensures.rows c.closed_on.ensures) w.if-closed_on.true (on_rows {o = w.closed_on-then-closed_on.result} (λ b. b.m0) (λ b. b.m1) (λ b. b.m2) c.lent_basis-k.ensures.rows w.closed_on-then-closed_on.ensures) c.if-closed_on-2.false (sym w.value-is ∙ c.if-closed_on-2.false)
  | else-closed_on w ↦ no_U c.requires c.lengths_of-l.ensures (on_rows {o = c.closed_on.result} (λ b. b.u) (λ b. zeros) (λ b. zeros) c.lent_basis-k.ensures.rows c.closed_on.ensures) c.if-closed_on-2.false w.if-closed_on.false
]
