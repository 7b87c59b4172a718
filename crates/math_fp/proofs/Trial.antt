-- Primality by trial division.
--   prime           p is prime where the computed test `is_prime p s` says so: no d from 2 to s + 1 divides p, and p < (s + 2)²
--   primeb_sound, primeb_make   so it is where, and only where, the definition as a test says so
--   only_step       what is below (s + 2)² and has a divisor has one below s + 2
--   prime_divisor   every number above 1 has a prime divisor
use mathlib.Core.Path.{◌≡◌, sym, ap, ◌∙◌, subst}
use mathlib.Core.Logic.{◌≢◌, ◌⊎◌, inl, inr, ⊎_elim}
use mathlib.Core.Bool.{Bool, true, false, ◌&&◌, not}
use Prim.Native.Nat.{ℕ, zero, suc, ◌+◌, ◌*◌, ◌-◌, ◌/◌, ◌%◌, ◌<◌, ◌≤◌}
use native.Mathlib.Nat.{mod-add-div, mod_self, mul-mod_left, zero-add, mul-le-mul, mul-one, mul-zero, div-lt_self, dvd_of_mod-eq-zero, mod-eq-zero_of_dvd, dvd_trans}
use native.Mathlib.Omega.{arith}
use native.Mathlib.Decide.{dec_lt, ℕ_discrete}
use lib.Dec.{T, eqb, ltb, ltb→lt, lt→ltb, eqb→eq, eqb_refl, T_not, not_T}
use Rattle.math_fp.specs.Fp.{Prime}
use Rattle.math_fp.specs.Trial.{no_div, primeb, is_prime}

pub and_l : (a b : Bool) → T (a && b) → T a
and_l true b t = tt
and_l false b t = t

pub and_r : (a b : Bool) → T (a && b) → T b
and_r true b t = t
and_r false b t = absurd t

no_div_step : (p k d : ℕ) → T (not (eqb (p % (k + 2)) 0)) → (d < k + 2 → p % d ≢ 0) → d < suc k + 2 → Dec (d ≡ k + 2) → p % d ≢ 0
no_div_step p k d here rest l (yes e) z = T_not (eqb (p % (k + 2)) 0) here (subst (λ n. T (eqb n 0)) (sym (ap (λ n. p % n) (sym e) ∙ z)) (eqb_refl 0))
no_div_step p k d here rest l (no f) z = rest (omega arith) z

pub no_div_sound : (p k : ℕ) → T (no_div p k) → (d : ℕ) → 1 < d → d < k + 2 → p % d ≢ 0
no_div_sound p zero t d h l = absurd (omega arith)
no_div_sound p (suc k) t d h l =
    no_div_step p k d
    (and_l (not (eqb (p % (k + 2)) 0)) (no_div p k) t)
    (no_div_sound p k (and_r (not (eqb (p % (k + 2)) 0)) (no_div p k) t) d h)
    l
    (ℕ_discrete d (k + 2))

-- p = d e with d and e both past s + 1 is at least (s + 2)²
module _ (p s : ℕ) (lt : p < (s + 2) * (s + 2)) (none : (d : ℕ) → 1 < d → d < s + 2 → d < p → p % d ≢ 0) where
  pub only_step : (d : ℕ) → 1 < d → d < p → p % d ≡ 0 → Dec (d < s + 2) → Dec (p / d < s + 2) → ⊥
  only_step d h l z (yes a) e = none d h a l z
  only_step d h l z (no a) (yes e) = none (p / d) big e (div-lt_self (omega arith) h) zmod
    where
      pde : d * (p / d) ≡ p
      pde = sym (zero-add (d * (p / d))) ∙ ap (λ t. t + d * (p / d)) (sym z) ∙ mod-add-div p d

      n0 : p / d ≢ 0
      n0 q = let r : d * 0 ≡ p = ap (λ t. d * t) (sym q) ∙ pde in omega (arith, mul-zero d)

      n1 : p / d ≢ 1
      n1 q = let r : d * 1 ≡ p = ap (λ t. d * t) (sym q) ∙ pde in omega (arith, mul-one d)

      big : 1 < p / d
      big = omega (arith, n0, n1)

      zmod : p % (p / d) ≡ 0
      zmod = ap (λ t. t % (p / d)) (sym pde) ∙ mul-mod_left d (p / d)
  only_step d h l z (no a) (no e) =
      let pde : d * (p / d) ≡ p = sym (zero-add (d * (p / d))) ∙ ap (λ t. t + d * (p / d)) (sym z) ∙ mod-add-div p d in
      let x : s + 2 ≤ d = omega arith in
      let y : s + 2 ≤ p / d = omega arith in
      let w : (s + 2) * (s + 2) ≤ d * (p / d) = mul-le-mul x y in
      omega arith

-- `prime 65521 254 tt`
pub prime : (p s : ℕ) → T (is_prime p s) → Prime p
prime p s t = record {
  big = ltb→lt 1 p (and_l (ltb 1 p) _ (and_l (ltb 1 p && ltb p ((s + 2) * (s + 2))) (no_div p s) t));
  only = λ d h l z. only_step p s
      (ltb→lt p ((s + 2) * (s + 2)) (and_r (ltb 1 p) _ (and_l (ltb 1 p && ltb p ((s + 2) * (s + 2))) (no_div p s) t)))
      (λ e i j k. no_div_sound p s (and_r (ltb 1 p && ltb p ((s + 2) * (s + 2))) (no_div p s) t) e i j)
      d h l z (dec_lt d (s + 2)) (dec_lt (p / d) (s + 2));
}

and_make : (a b : Bool) → T a → T b → T (a && b)
and_make true b s t = t
and_make false b s t = s

no_div_make : (p k : ℕ) → ((d : ℕ) → 1 < d → d < k + 2 → p % d ≢ 0) → T (no_div p k)
no_div_make p zero f = tt
no_div_make p (suc k) f =
    and_make (not (eqb (p % (k + 2)) 0)) (no_div p k)
    (not_T (eqb (p % (k + 2)) 0) (λ t. f (k + 2) (omega arith) (omega arith) (eqb→eq (p % (k + 2)) 0 t)))
    (no_div_make p k (λ d h l. f d h (omega arith)))

pub primeb_sound : (p : ℕ) → T (primeb p) → Prime p
unfolding primeb
primeb_sound p t =
    let b : 1 < p = ltb→lt 1 p (and_l (ltb 1 p) (no_div p (p - 2)) t) in record {
      big = b;
      only = λ d h l. no_div_sound p (p - 2) (and_r (ltb 1 p) (no_div p (p - 2)) t) d h (omega arith);
    }

pub primeb_make : (p : ℕ) → Prime p → T (primeb p)
unfolding primeb
primeb_make p pr =
    let b : 1 < p = pr.big in
    and_make (ltb 1 p) (no_div p (p - 2)) (lt→ltb 1 p b) (no_div_make p (p - 2) (λ d h l. pr.only d h (omega arith)))

-- ---- every number above 1 has a prime divisor: its least divisor
abbrev Least : ℕ → ℕ → Type 0
Least n q = (1 < q) × (n % q ≡ 0) × ((d : ℕ) → 1 < d → d < q → n % d ≢ 0)

abbrev NoneBelow : ℕ → ℕ → Type 0
NoneBelow n m = (d : ℕ) → 1 < d → d < m + 2 → n % d ≢ 0

-- the divisors below m + 3: at m + 2, or below
least_step : (n m : ℕ) → NoneBelow n m → Dec (n % (m + 2) ≡ 0) → NoneBelow n (suc m) ⊎ ((q : ℕ) × Least n q)
least_step n m f (yes z) = inr (m + 2, (omega arith, z, f))
least_step n m f (no k) = inl (λ d h l. go d h l (dec_lt d (m + 2)))
  where
    go : (d : ℕ) → 1 < d → d < suc m + 2 → Dec (d < m + 2) → n % d ≢ 0
    go d h l (yes b) z = f d h b z
    go d h l (no b) z = let e : d ≡ m + 2 = omega arith in k (ap (λ t. n % t) (sym e) ∙ z)

least : (n m : ℕ) → NoneBelow n m ⊎ ((q : ℕ) × Least n q)
least n zero = inl (λ d h l. absurd (omega arith))
least n (suc m) = ⊎_elim (λ f. least_step n m f (ℕ_discrete (n % (m + 2)) 0)) inr (least n m)

pub prime_divisor : (n : ℕ) → 1 < n → (q : ℕ) × Prime q × (n % q ≡ 0)
prime_divisor n h = ⊎_elim
    (λ f. absurd (f n h (omega arith) (mod_self n)))
    (λ w. let (q, (b, z, f)) = w in (
      q,
      record { big = b; only = λ d i l k. f d i l (mod-eq-zero_of_dvd d (dvd_trans d (dvd_of_mod-eq-zero d k) (dvd_of_mod-eq-zero q z))) },
      z,
    ))
    (least n n)
