-- What the tests find.
--   past           past the end stands 0
--   below_test     what is below p at each place is so everywhere
--   longer_test    what `Longer` says of sizes
use mathlib.Core.Path.{◌≡◌, sym, ◌∙◌, subst}
use mathlib.Core.Logic.{inl, inr}
use mathlib.Core.Bool.{Bool, true, true≢false}
use mathlib.Core.List.{List}
use Prim.Native.Nat.{ℕ, suc, ◌<◌, ◌≤◌}
use native.Mathlib.Omega.{arith}
use native.Mathlib.Decide.{dec_lt}
use lib.Dec.{ltb}
use lib.ListN.{length, get_or, get_or-eq_default}
use Rattle.std.proofs.lemmas.Bool.Decides.{leb_tells}
use Rattle.base_answers.specs.Decides.{Decides}
use Rattle.base_answers.proofs.Tests.{answer_yes, answer_no}
use Rattle.base_lists.specs.Coefficients.{Size, trim}
use Rattle.base_lists.proofs.Trims.{trim_length}
use Rattle.poly_tests.specs.Tests.{Below, Longer}

pub past : (l : List ℕ) (i : ℕ) → length l ≤ i → get_or l i 0 ≡ 0
past l i h = get_or-eq_default l 0 {n = i} h

pub below_test : {p : ℕ} (l : List ℕ) {r : Bool} → 0 < p → (r ≡ true → (k : ℕ) → k < length l → get_or l k 0 < p) → (((k : ℕ) → k < length l → get_or l k 0 < p) → r ≡ true)
    → Decides r (Below p l)
below_test {p} l z f g = record {
  yes! = λ e k. elim (dec_lt k (length l)) [ yes v ↦ f e k v | no v ↦ let q : get_or l k 0 ≡ 0 = past l k (omega arith) in omega arith ];
  no! = λ e h. true≢false (sym (g (λ k v. h k)) ∙ e);
}

-- ---- lengths
module _ {x y : List ℕ} {a b : ℕ} (sx : Size x a) (sy : Size y b) where
  pub to_longer : b < a → Longer x y
  to_longer u = let ex : length (trim x) ≡ a = trim_length x a sx in let ey : length (trim y) ≡ b = trim_length y b sy in omega arith

  pub of_longer : Longer x y → b < a
  of_longer u = let ex : length (trim x) ≡ a = trim_length x a sx in let ey : length (trim y) ≡ b = trim_length y b sy in omega arith

  pub longer_test : Decides (ltb b a) (Longer x y)
  longer_test = elim (leb_tells (suc b) a) [
    | inl (e, h) ↦ subst (λ r. Decides r (Longer x y)) (sym e) (answer_yes (to_longer h))
    | inr (e, h) ↦ subst (λ r. Decides r (Longer x y)) (sym e) (answer_no (λ u. let w = of_longer u in absurd (omega (arith, w))))
  ]
