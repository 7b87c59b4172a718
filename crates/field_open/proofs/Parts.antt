-- The parts of the opening.
--   row_three ..       the answers of rows 3 to 6
--   no_prime, is_good_lem  what the prime test's answer says of fault 1
use mathlib.Core.Path.{◌≡◌, refl, sym, ap, ◌∙◌, subst}
use mathlib.Core.Logic.{◌≢◌, inl, inr}
use mathlib.Core.Bool.{Bool, true, false}
use mathlib.Core.List.{List}
use Prim.Native.Nat.{ℕ, ◌+◌, ◌-◌, ◌%◌, ◌<◌, ◌≤◌}
use native.Mathlib.Omega.{arith}
use native.Mathlib.Decide.{dec_le}
use Rattle.base_answers.specs.Stage.{End}
use Rattle.base_lists.proofs.Coefs.{list_degree}
pub use Rattle.base_lists.proofs.Coefs.{length_of, list_short}
use Rattle.num_prime.specs.Table.{largest, PrimeTest}
use Rattle.field_open.specs.Refusal.{highest, Degree, Fault1, Fault4, Fault5, Fault6, Rows36}
use Rattle.field_open.specs.Parts.{ListLength}
use Rattle.field_open.proofs.Stages.{degree_unique}

-- ---- rows 3 to 6, by the numbers of coefficients
pub row_three : {p lg lh : ℕ} {G H : List ℕ} → ListLength p G lg → ListLength p H lh → lg ≢ 0 → lh ≡ 0 → Rows36 p G H End 3
row_three {lg = lg} a b na nb = inr (λ f. f (lg - 1) (list_degree a na), inl (b.none nb, refl))

module _ {p lg lh : ℕ} {G H : List ℕ} (a : ListLength p G lg) (b : ListLength p H lh) (na : lg ≢ 0) (nb : lh ≢ 0) where
  abbrev d : ℕ
  d = lg - 1

  abbrev e : ℕ
  e = lh - 1

  g : Degree p G d
  g = list_degree a na

  h : Degree p H e
  h = list_degree b nb

  some : d + e ≢ 0 → Fault4 p G H → ⊥
  some ne (u, v) = ne (let x : 0 ≡ d = degree_unique u g in let y : 0 ≡ e = degree_unique v h in omega arith)

  low : d + e ≤ highest → Fault5 p G H → ⊥
  low l (m, n, u, v, k) = let x : m ≡ d = degree_unique u g in let y : n ≡ e = degree_unique v h in omega arith

  even : d % 3 ≡ e % 3 → Fault6 p G H → ⊥
  even q (m, n, u, v, k) = k (ap (λ i. i % 3) (degree_unique u g) ∙ q ∙ ap (λ i. i % 3) (sym (degree_unique v h)))

  pub row_four : d + e ≡ 0 → Rows36 p G H End 4
  row_four z = inr (λ f. f d g, inr (λ f. f e h, inl ((subst (Degree p G) (omega arith) g, subst (Degree p H) (omega arith) h), refl)))

  pub row_five : d + e ≢ 0 → highest < d + e → Rows36 p G H End 5
  row_five z l = inr (λ f. f d g, inr (λ f. f e h, inr (some z, inl ((d, e, g, h, l), refl))))

  pub row_six : d + e ≢ 0 → d + e ≤ highest → d % 3 ≢ e % 3 → Rows36 p G H End 6
  row_six z l q = inr (λ f. f d g, inr (λ f. f e h, inr (some z, inr (low l, inl ((d, e, g, h, q), refl)))))

  pub row_none : d + e ≢ 0 → d + e ≤ highest → d % 3 ≡ e % 3 → Rows36 p G H End 0
  row_none z l q = inr (λ f. f d g, inr (λ f. f e h, inr (some z, inr (low l, inr (even q, refl)))))

-- ---- fault 1
pub no_prime : (p : ℕ) (r : Bool) → PrimeTest p r → r ≡ false → Fault1 p
no_prime p r t e = elim (dec_le p largest) [ yes l ↦ inr (inr (λ pr. t.no! e pr l)) | no l ↦ inr (inl (omega arith)) ]

pub is_good_lem : (p : ℕ) (r : Bool) → 5 ≤ p → PrimeTest p r → r ≡ true → Fault1 p → ⊥
is_good_lem p r l t e (inl f) = omega arith
is_good_lem p r l t e (inr (inl f)) = let h : p ≤ largest = (t.yes! e).1 in omega arith
is_good_lem p r l t e (inr (inr f)) = f (t.yes! e).0
