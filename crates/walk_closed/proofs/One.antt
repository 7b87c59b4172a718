-- A row is the polynomial 1 exactly where its first entry is 1 and the others are 0; `closed_unique`: the test has one answer, for a prime p.
use mathlib.Core.Path.{◌≡◌, refl, sym, ap, ◌∙◌}
use mathlib.Core.Logic.{◌≢◌}
use mathlib.Core.List.{List, [], ◌∷◌}
use Prim.Native.Nat.{ℕ, zero, suc, ◌+◌, ◌*◌, ◌-◌, ◌<◌, ◌≤◌}
use native.Mathlib.Omega.{arith}
use native.Mathlib.Decide.{dec_lt}
use lib.ListN.{length, get_or, replicate}
use Rattle.std.specs.Bool.{MatchBool}
use Rattle.std.specs.List.{between, AllWithin, HoldsAt}
use Rattle.std.proofs.lemmas.List.Edits.{length-between, get_or-between}
use Rattle.math_ring.proofs.Solve.{one, zer, ◌:+◌, ◌:*◌, solve}
use Rattle.math_fp.specs.Fp.{Prime}
use Rattle.math_rows.specs.Reading.{Reading}
use Rattle.math_rows.specs.Row.{Size, row, psum, tpow}
use Rattle.math_rows.proofs.Rows.{row_cut}
use Rattle.math_rows.proofs.Tab.{zeros_at, at_tab, past_tab, length_tab}
use Rattle.math_rows.proofs.Unique.{list_unique}
use Rattle.math_rows.specs.Made.{reading}
use Rattle.basis_record.specs.Record.{part}
use Rattle.basis_record.proofs.Unique.{part_below}
use Rattle.walk_closed.specs.Closed.{IsClosedAsks, OnePart}
use mathlib.Core.Bool.{Bool, true, false}

module _ {p : ℕ} (ρ : Reading p) (l : List ℕ) where
  open ρ use {𝓥, cast}
  open 𝓥 use {K, L, const}

  pub one_of : Size l 1 → get_or l 0 0 ≡ 1 → row ρ l ≡ L.ops.𝟏
  unfolding psum tpow
  one_of s e =
      row_cut ρ l 1 s
      ∙ ap (λ n. L.ops.add L.ops.𝟎 (L.ops.mul (const (cast n)) L.ops.𝟏)) e
      ∙ ap (λ x. L.ops.add L.ops.𝟎 (L.ops.mul x L.ops.𝟏)) (ap const ρ.cast_one ∙ ρ.const_one)
      ∙ solve L (zer :+ one :* one) one tt []

-- 1, 0, .., 0
abbrev unit17 : List ℕ
unit17 = 1 ∷ replicate 16 0

-- the same of the row U of a record: its numbers stand from place 102 on
module _ (p : ℕ) (B : List ℕ) where
  at : (j : ℕ) → j < 17 → get_or (part 6 B) j 0 ≡ get_or B (102 + j) 0
  at j l = at_tab 17 (λ j. get_or B (17 * 6 + j) 0) j l

  part_one : get_or B 102 0 ≡ 1 → ((k : ℕ) → 103 ≤ k → k < 119 → get_or B k 0 ≡ 0) → OnePart p B true
  part_one e z pr = one_of (reading p pr) (part 6 B) (record { fits = omega (arith, length_tab 17 (λ j. get_or B (17 * 6 + j) 0)); above = above; top = λ l q. absurd (omega (arith, at 0 (omega arith))) }) (at 0 (omega arith) ∙ e)
    where
      above : (j : ℕ) → 1 ≤ j → get_or (part 6 B) j 0 ≡ 0
      above j l = elim (dec_lt j 17) [ yes w ↦ at j w ∙ z (102 + j) (omega arith) (omega arith) | no w ↦ past_tab 17 (λ j. get_or B (17 * 6 + j) 0) j (omega arith) ]

  -- a row of 17 numbers that is the polynomial 1 is 1, 0, .., 0
  is_a_unit : IsClosedAsks p B → (pr : Prime p) → row (reading p pr) (part 6 B) ≡ (reading p pr).𝓥.L.ops.𝟏 → part 6 B ≡ unit17
  is_a_unit h pr e = list_unique (reading p pr) (part 6 B) unit17 (length_tab 17 (λ j. get_or B (17 * 6 + j) 0)) (part_below B h.each 6) small
      (e ∙ sym (one_of (reading p pr) unit17 (record { fits = omega arith; above = tail; top = λ l q. let z : ◌≡◌ {A = ℕ} 1 0 = q in absurd (omega arith) }) refl))
    where
      tail : (j : ℕ) → 1 ≤ j → get_or unit17 j 0 ≡ 0
      tail zero l = absurd (omega arith)
      tail (suc j) l = zeros_at 16 j

      small : (j : ℕ) → get_or unit17 j 0 < p
      small zero = pr.big
      small (suc j) = let z : get_or unit17 (suc j) 0 ≡ 0 = zeros_at 16 j in let b : 1 < p = pr.big in omega arith

  pub first_other : IsClosedAsks p B → get_or B 102 0 ≢ 1 → OnePart p B false
  first_other h f pr e = f (sym (at 0 (omega arith)) ∙ ap (λ l. get_or l 0 0) (is_a_unit h pr e))

  later_other : IsClosedAsks p B → (k : ℕ) → 103 ≤ k → k < 119 → get_or B k 0 ≢ 0 → OnePart p B false
  later_other h k l u f pr e = f (ap (λ m. get_or B m 0) (let q : k ≡ 102 + suc (k - 103) = omega arith in q) ∙ sym (at (suc (k - 103)) (omega arith)) ∙ ap (λ l. get_or l (suc (k - 103)) 0) (is_a_unit h pr e) ∙ zeros_at 16 (k - 103))

  -- what a test of all numbers after the first says
  pub rest_settles : get_or B 102 0 ≡ 1 → IsClosedAsks p B → (r : Bool) → MatchBool r (AllWithin (λ x. x ≡ 0) (between 103 119 B) 0 (length (between 103 119 B)))
      ((k : ℕ) × (k < length (between 103 119 B)) × HoldsAt (λ x. x ≢ 0) (between 103 119 B) k) → OnePart p B r
  rest_settles e h true w = part_one e (λ k l u. ap (λ m. get_or B m 0) (let q : k ≡ 103 + (k - 103) = omega arith in q)
      ∙ sym (get_or-between B 103 119 (k - 103) 0 (omega arith)) ∙ w (k - 103) 0 (omega arith) (let s : length (between 103 119 B) ≡ 16 = length-between B 103 119 (omega (arith, h.size)) in omega arith))
  rest_settles e h false (k, l, w) = let s : length (between 103 119 B) ≡ 16 = length-between B 103 119 (omega (arith, h.size)) in
      later_other h (103 + k) (omega arith) (omega arith) (λ z. w 0 (get_or-between B 103 119 k 0 (omega arith) ∙ z))

pub closed_unique : (p : ℕ) (pr : Prime p) (B : List ℕ) (a b : Bool) → OnePart p B a → OnePart p B b → a ≡ b
closed_unique p pr B true true h k = refl
closed_unique p pr B true false h k = absurd (k pr (h pr))
closed_unique p pr B false true h k = absurd (h pr (k pr))
closed_unique p pr B false false h k = refl
