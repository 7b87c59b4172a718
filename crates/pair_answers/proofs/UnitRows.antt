-- The six rows of a unit of the one pair and of the other.
--   RowsIn, rows_way, rows_in   what RowsCarry says for a given way; between the two
--   Over, rows_below, over      six rows of numbers below p that six rows carry over to; there are such
--   holds_over                  rows that hold the unit and its inverse carry over to such rows
--   finds_over, misses_over     the closing of the chain from the order, or that there is none
use mathlib.Core.Path.{◌≡◌, subst}
use mathlib.Core.List.{List}
use Prim.Native.Nat.{ℕ, ◌+◌, ◌*◌, ◌<◌}
use native.Mathlib.Omega.{arith}
use lib.ListN.{length, get_or}
use Rattle.math_rows.specs.Made.{reading}
use Rattle.field_open.specs.Refusal.{Accepted}
use Rattle.field_open.proofs.Accept.{with_prime}
use Rattle.math_chain.specs.Convention.{Convention}
use Rattle.math_chain.specs.Unit.{UnitOf}
use Rattle.math_chain.proofs.Exists.{order_exists}
use Rattle.basis_record.specs.Record.{setting}
use Rattle.door_unit.specs.Unit.{Finds, Misses}
use Rattle.unit_finish.specs.Rows.{six, Holds}
use Rattle.pair_laws.specs.Rows.{RowsCarry, straight, crossed}
use Rattle.door_transfer.proofs.Rows.{carried_each}
use Rattle.math_carry.proofs.Same as theory
use Rattle.pair_answers.proofs.Way.{Way, same, swapped, map}
use Rattle.pair_answers.proofs.Rows.{ThreeIn, tri_over}
use Rattle.pair_answers.proofs.Blocks.{straights, crosseds, made, made_size, straight_rows, crossed_rows}

module _ {p : ℕ} {G H G' H' : List ℕ} where
  abbrev pub RowsIn : Way p G H G' H' → ℕ → List ℕ → List ℕ → Type 0
  RowsIn w c r r' = ThreeIn w c r 0 r' × ThreeIn w c r (c + c + c) r'

  pub rows_way : {c : ℕ} {r r' : List ℕ} → RowsCarry p G H G' H' c r r' → (w : Way p G H G' H') × RowsIn w c r r'
  rows_way (straight a b x y l e f) = (same a b x y l, (e, f))
  rows_way (crossed a b x y l e f) = (swapped a b x y l, (e, f))

  pub rows_in : {c : ℕ} {r r' : List ℕ} (w : Way p G H G' H') → RowsIn w c r r' → RowsCarry p G H G' H' c r r'
  rows_in (same a b x y l) (e, f) = straight a b x y l e f
  rows_in (swapped a b x y l) (e, f) = crossed a b x y l e f

  -- ---- the rows that six rows carry over to
  pub record Over (w : Way p G H G' H') (c : ℕ) (r r' : List ℕ) : Type 0 where
    pub size : length r' ≡ 6 * c
    pub below : (i : ℕ) → get_or r' i 0 < p
    pub rows : RowsIn w c r r'

  module _ (c : ℕ) (r : List ℕ) (below : (i : ℕ) → get_or r i 0 < p) where
    pub rows_below : (w : Way p G H G' H') (r' : List ℕ) → length r' ≡ 6 * c → RowsIn w c r r' → Over w c r r'
    rows_below w r' z k = record { size = z; below = carried_each p (omega (arith, below 0)) c r r' z below (rows_in w k); rows = k }

    pub over : (w : Way p G H G' H') → (r' : List ℕ) × Over w c r r'
    over (same a b x y l) =
        let h = straights p c x y r in
        (made (6 * c) c h, rows_below (same a b x y l) (made (6 * c) c h) (made_size (6 * c) c h) (straight_rows p c x y r (6 * c) (omega arith)))
    over (swapped a b x y l) =
        let h = crosseds p c x y r in
        (made (6 * c) c h, rows_below (swapped a b x y l) (made (6 * c) c h) (made_size (6 * c) c h) (crossed_rows p c x y r (6 * c) (omega arith)))

  -- ---- the unit, and the chain that gives it
  module _ (A₀ : Accepted p G H) (w : Way p G H G' H') where
    pub holds_over : {k : Convention} {l d c : ℕ} {r r' : List ℕ} → Over w c r r' → Holds k p G H l d c r → Holds k p G' H' l d c r'
    holds_over {k} {l} {d} {c} {r} {r'} o h = record {
      whole = o.size;
      each = o.below;
      unit = λ A' B₀' st'.
          let pr = A'.prime in
          let A = with_prime A₀ pr in
          let (B₀, st) = order_exists (setting A) in
          subst (λ E. UnitOf (setting A') k B₀' l d E (six A' c (c + c + c) r')) (tri_over A A' pr c 0 r r' w o.rows.0)
          (subst (λ F. UnitOf (setting A') k B₀' l d ((map A A' pr w).to (six A c 0 r)) F) (tri_over A A' pr c (c + c + c) r r' w o.rows.1)
          (theory.unit_over (reading p pr).𝓥 (map A A' pr w) B₀ B₀' st st' (h.unit A B₀ st)));
    }

    pub finds_over : {l d : ℕ} → Finds p G H l d → Finds p G' H' l d
    finds_over f A' B₀' st' =
        let pr = A'.prime in
        let A = with_prime A₀ pr in
        let (B₀, st) = order_exists (setting A) in
        (_, theory.closing_over (reading p pr).𝓥 (map A A' pr w) B₀ B₀' st st' (f A B₀ st).1)

    pub misses_over : {n : ℕ} → Misses p G H n → Misses p G' H' n
    misses_over h A' B₀' st' =
        let pr = A'.prime in
        let A = with_prime A₀ pr in
        let (B₀, st) = order_exists (setting A) in
        theory.open_over (reading p pr).𝓥 (map A A' pr w) B₀ B₀' st st' (h A B₀ st)
