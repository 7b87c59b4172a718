-- Lists of coefficients.
--   degree_unique, list_unique    one degree and one answer for each list
--   list_degree, length_of        the degree is the number of coefficients less 1
--   list_short                    the answer is at most the greatest length
--   coefs_size                    the zeros at the end are none: the size is the length
use mathlib.Core.Path.{◌≡◌, refl, sym, ap, ◌∙◌}
use mathlib.Core.Logic.{◌≢◌}
use mathlib.Core.List.{List}
use Prim.Native.Nat.{ℕ, zero, suc, ◌-◌, ◌≤◌}
use native.Mathlib.Omega.{arith}
use lib.ListN.{length, get_or, get_or-eq_default}
use Rattle.base_lists.specs.Coefficients.{Size, Coefficients, ListLength}

module _ {most p : ℕ} {l : List ℕ} where
  pub degree_unique : {d e : ℕ} → Coefficients most p l d → Coefficients most p l e → d ≡ e
  degree_unique {d} {e} a b = let u : length l ≡ suc d = a.whole in let v : length l ≡ suc e = b.whole in omega arith

  pub list_unique : (m n : ℕ) → ListLength most p l m → ListLength most p l n → m ≡ n
  list_unique zero zero a b = refl
  list_unique zero (suc n) a b = absurd (a.none refl n (b.some n refl))
  list_unique (suc m) zero a b = absurd (b.none refl m (a.some m refl))
  list_unique (suc m) (suc n) a b = sym (a.some m refl).whole ∙ (b.some n refl).whole

  pub list_degree : {n : ℕ} → ListLength most p l n → n ≢ 0 → Coefficients most p l (n - 1)
  list_degree {n} a f = a.some (n - 1) (omega arith)

  pub length_of : {d : ℕ} (n : ℕ) → Coefficients most p l d → ListLength most p l n → n ≡ suc d
  length_of {d} zero s a = absurd (a.none refl d s)
  length_of (suc m) s a = ap suc (degree_unique (a.some m refl) s)

  pub list_short : (n : ℕ) → ListLength most p l n → n ≤ most
  list_short zero a = omega arith
  list_short (suc d) a = let s = a.some d refl in let e : length l ≡ suc d = s.whole in let b : length l ≤ most = s.short in omega arith

  pub coefs_size : {d : ℕ} → Coefficients most p l d → Size l (suc d)
  coefs_size {d} s = record {
    fits = (let e : length l ≡ suc d = s.whole in omega arith);
    above = λ i h. get_or-eq_default l 0 {n = i} (let e : length l ≡ suc d = s.whole in omega arith);
    top = λ h z. s.last (ap (λ m. get_or l m 0) (let o : d ≡ suc d - 1 = omega arith in o) ∙ z);
  }
