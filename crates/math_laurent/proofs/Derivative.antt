-- The derivative of Laurent series.
--   D_add, D_mul, D_const, D_t   sums, the product rule, constants, D t = 1
--   coef_D     the coefficient of D x at t^(p − q) is (p + 1 − q) times that of x at t^(p + 1 − q)
--   D_poly     the derivative of a polynomial is one
--   D_root     in characteristic p, where a^p = a for constants: a polynomial with derivative 0 is the p-th power of a polynomial
use mathlib.Core.Path.{◌≡◌, refl, sym, ◌∙◌, ap, ap₂, fun_ext}
use mathlib.Core.List.{List, [], ◌∷◌}
use mathlib.Core.Logic.{◌≢◌}
use mathlib.Core.Quot.{Quot-set}
use Prim.Native.Nat.{ℕ, zero, suc, ◌≤◌, ◌<◌, ◌-◌, ◌%◌, ◌+◌ as ◌+ⁿ◌}
use native.Mathlib.Nat as N
use native.Mathlib.Decide.{dec_le, ℕ_discrete}
use native.Mathlib.Omega.{arith}
use lib.ListN.{length, get_or, drop, length-drop}
use Rattle.math_ring.specs.Ring.{CRing, nat}
use Rattle.math_ring.specs.Field.{Field}
use Rattle.math_ring.specs.Power.{pow}
use Rattle.math_ring.proofs.Laws as r
use Rattle.math_ring.proofs.Power.{pow-suc, mul_pow}
use Rattle.math_ring.proofs.Solve.{var, one, zer, minus, ◌:+◌, ◌:*◌, hyp, solve, solve_by}
use Rattle.math_laurent.specs.Series.{Ser, tail, cons, up, const_s, mul_s, sops}
use Rattle.math_laurent.specs.Laurent.{Lau, mk, mk_up, lau_ind, up_add, lops, const, t}
use Rattle.math_laurent.specs.Degree.{coef}
use Rattle.math_laurent.specs.Polynomial.{IsPoly, poly}
use Rattle.math_laurent.specs.Derivative.{tilt, D}
use Rattle.math_laurent.proofs.Series.{up_zero, up_mul, mul_up}
use Rattle.math_laurent.proofs.Laurent.{laurent, lau_ind2, add_mk, mul_mk, const_mul, const_zero}
use Rattle.math_laurent.proofs.Coef.{coef_in, coef_out, coef_move, coef_zero}
use Rattle.math_laurent.proofs.Polynomial.{zero-IsPoly, const-IsPoly, t-IsPoly, add-IsPoly, mul-IsPoly}
use Rattle.math_laurent.proofs.Lists.{poly_nil, poly_cons, poly_coef, coeff_list}

module _ (R : CRing) where
  open R.ops use {add as ◌+ᵏ◌, mul as ◌*ᵏ◌, neg as -ᵏ◌, 𝟎 as 0ᵏ, 𝟏 as 1ᵏ}
  open lops R use {add as ◌+◌, mul as ◌*◌, neg as -◌, 𝟎, 𝟏}

  infixl 60 ◌+◌ ◌+ᵏ◌
  infixl 70 ◌*◌ ◌*ᵏ◌
  infix 80 -◌ -ᵏ◌
  abbrev ν : ℕ → R.El
  ν n = nat R.ops n

  D_mk : (d : ℕ) (f : Ser R) → D R (mk R d f) ≡ mk R d (up R (tilt R (ν d) f))
  unfolding D
  D_mk d f = refl

  -- tilted by one more, a series that is moved up is the tilted one moved up: so D does not depend on d
  pub tilt_up : (d : ℕ) (f : Ser R) → up R (tilt R (nat R.ops d) f) ≡ tilt R (nat R.ops (suc d)) (up R f)
  unfolding cons nat
  tilt_up d f = fun_ext at
    where
      at : (n : ℕ) → up R (tilt R (nat R.ops d) f) n ≡ tilt R (nat R.ops (suc d)) (up R f) n
      at zero = sym (r.mul-zero R _)
      at (suc n) = solve R ((var 0 :+ minus (var 1)) :* var 2) ((one :+ var 0 :+ minus (one :+ var 1)) :* var 2) tt (nat R.ops d ∷ nat R.ops n ∷ f n ∷ [])

  -- ---- sums and products
  tilt_add : (a : R.El) (f g : Ser R) → tilt R a ((sops R).add f g) ≡ (sops R).add (tilt R a f) (tilt R a g)
  tilt_add a f g = fun_ext (λ n. R.laws.mul-add (a +ᵏ -ᵏ ν n) (f n) (g n))

  tilt_tail : (a : R.El) (f : Ser R) → tail (tilt R a f) ≡ tilt R (a +ᵏ -ᵏ 1ᵏ) (tail f)
  unfolding nat
  tilt_tail a f = fun_ext (λ n. solve R ((var 0 :+ minus (one :+ var 1)) :* var 2) ((var 0 :+ minus one :+ minus (var 1)) :* var 2) tt (a ∷ ν n ∷ f (suc n) ∷ []))

  -- the product rule, with the two offsets any elements: one induction on the index
  tilt_mul_at : (n : ℕ) (a b : R.El) (f g : Ser R) → tilt R (a +ᵏ b) (mul_s R f g) n ≡ mul_s R (tilt R a f) g n +ᵏ mul_s R f (tilt R b g) n
  unfolding nat mul_s
  tilt_mul_at zero a b f g =
      solve R ((var 0 :+ var 1 :+ minus zer) :* (var 2 :* var 3)) ((var 0 :+ minus zer) :* var 2 :* var 3 :+ var 2 :* ((var 1 :+ minus zer) :* var 3)) tt (a ∷ b ∷ f 0 ∷ g 0 ∷ [])
  tilt_mul_at (suc n) a b f g =
      let A = var 0 in let B = var 1 in let N = var 2 in let X = var 3 in let Y = var 4 in let M = var 5 in let S = var 6 in let T = var 7 in
      -- X = f(0), Y = g(n + 1), M = f' g at n; (a − 1 + b − n) M = S + T by induction
      solve_by R ((A :+ B :+ minus (one :+ N)) :* (X :* Y :+ M)) ((A :+ minus zer) :* X :* Y :+ S :+ (X :* ((B :+ minus (one :+ N)) :* Y) :+ T))
      (hyp one ((A :+ minus one :+ B :+ minus N) :* M) (S :+ T) ∷ []) tt
      (a ∷ b ∷ ν n ∷ f 0 ∷ g (suc n) ∷ mul_s R (tail f) g n ∷ mul_s R (tail (tilt R a f)) g n ∷ mul_s R (tail f) (tilt R b g) n ∷ [])
      (tilt_mul_at n (a +ᵏ -ᵏ 1ᵏ) b (tail f) g ∙ ap (λ h. mul_s R h g n +ᵏ mul_s R (tail f) (tilt R b g) n) (sym (tilt_tail a f)), tt)

  tilt_mul : (d e : ℕ) (f g : Ser R) → tilt R (ν (d +ⁿ e)) (mul_s R f g) ≡ (sops R).add (mul_s R (tilt R (ν d) f) g) (mul_s R f (tilt R (ν e) g))
  tilt_mul d e f g = fun_ext (λ n. ap (λ a. tilt R a (mul_s R f g) n) (r.nat_add R d e) ∙ tilt_mul_at n (ν d) (ν e) f g)

  pub D_add : (x y : Lau R) → D R (x + y) ≡ D R x + D R y
  D_add = lau_ind2 R (λ x y. D R (x + y) ≡ D R x + D R y) (λ x y. Quot-set _ _) (λ d f g.
      ap (D R) (add_mk R d f g) ∙ D_mk d ((sops R).add f g)
      ∙ ap (mk R d) (ap (up R) (tilt_add (ν d) f g) ∙ up_add R (tilt R (ν d) f) (tilt R (ν d) g))
      ∙ sym (ap₂ ◌+◌ (D_mk d f) (D_mk d g) ∙ add_mk R d (up R (tilt R (ν d) f)) (up R (tilt R (ν d) g))))

  pub D_mul : (x y : Lau R) → D R (x * y) ≡ D R x * y + x * D R y
  D_mul = lau_ind2 R (λ x y. D R (x * y) ≡ D R x * y + x * D R y) (λ x y. Quot-set _ _) (λ d f g.
      let f' : Ser R = tilt R (ν d) f in
      let g' : Ser R = tilt R (ν d) g in
      ap (D R) (mul_mk R d f d g) ∙ D_mk (d +ⁿ d) (mul_s R f g)
      ∙ ap (mk R (d +ⁿ d)) (ap (up R) (tilt_mul d d f g) ∙ up_add R (mul_s R f' g) (mul_s R f g') ∙ ap₂ (sops R).add (sym (up_mul R f' g)) (sym (mul_up R f g')))
      ∙ sym (ap₂ ◌+◌ (ap (λ z. z * mk R d g) (D_mk d f) ∙ mul_mk R d (up R f') d g) (ap (λ z. mk R d f * z) (D_mk d g) ∙ mul_mk R d f d (up R g'))
      ∙ add_mk R (d +ⁿ d) (mul_s R (up R f') g) (mul_s R f (up R g'))))

  -- ---- constants and t
  tilt_const : (a b : R.El) → tilt R a (const_s R b) ≡ const_s R (a *ᵏ b)
  unfolding cons nat
  tilt_const a b = fun_ext at
    where
      at : (n : ℕ) → tilt R a (const_s R b) n ≡ const_s R (a *ᵏ b) n
      at zero = solve R ((var 0 :+ minus zer) :* var 1) (var 0 :* var 1) tt (a ∷ b ∷ [])
      at (suc n) = r.mul-zero R _

  pub D_const : (a : R.El) → D R (const R a) ≡ 𝟎
  unfolding nat
  D_const a = D_mk 0 (const_s R a) ∙ ap (λ f. mk R 0 (up R f)) (tilt_const 0ᵏ a ∙ ap (const_s R) (r.zero_mul' R a) ∙ up_zero R) ∙ ap (mk R 0) (up_zero R)

  pub D_t : D R (t R) ≡ 𝟏
  D_t = D_mk 1 (const_s R 1ᵏ) ∙ ap (λ f. mk R 1 (up R f)) (tilt_const (ν 1) 1ᵏ ∙ ap (const_s R) (R.laws.mul-one (ν 1) ∙ r.nat_one R)) ∙ sym (mk_up R 0 (const_s R 1ᵏ))

  -- ---- coefficients, and polynomials
  pub coef_D : (p q : ℕ) (x : Lau R) → coef R p q (D R x) ≡ (ν (suc p) +ᵏ -ᵏ ν q) *ᵏ coef R (suc p) q x
  unfolding cons
  coef_D p q = lau_ind R (λ x. coef R p q (D R x) ≡ (ν (suc p) +ᵏ -ᵏ ν q) *ᵏ coef R (suc p) q x) (λ x. R.laws.is_set _ _)
      (λ d f. ap (coef R p q) (D_mk d f) ∙ go d f (dec_le (suc p) (d +ⁿ q)) (ℕ_discrete (d +ⁿ q) p))
    where
      -- d − n = p + 1 − q in the ring where it is so for the numbers
      same : (d n : ℕ) → d +ⁿ q ≡ suc p +ⁿ n → ν d +ᵏ -ᵏ ν n ≡ ν (suc p) +ᵏ -ᵏ ν q
      same d n e = solve_by R (var 0 :+ minus (var 1)) (var 2 :+ minus (var 3)) (hyp one (var 0 :+ var 3) (var 2 :+ var 1) ∷ []) tt (ν d ∷ ν n ∷ ν (suc p) ∷ ν q ∷ [])
          (sym (r.nat_add R d q) ∙ ap ν e ∙ r.nat_add R (suc p) n, tt)

      none : (d : ℕ) (f : Ser R) → d +ⁿ q < suc p → 0ᵏ ≡ (ν (suc p) +ᵏ -ᵏ ν q) *ᵏ coef R (suc p) q (mk R d f)
      none d f l = sym (ap (λ c. (ν (suc p) +ᵏ -ᵏ ν q) *ᵏ c) (coef_out R (suc p) q d f l) ∙ r.mul-zero R _)

      go : (d : ℕ) (f : Ser R) → Dec (suc p ≤ d +ⁿ q) → Dec (d +ⁿ q ≡ p) → coef R p q (mk R d (up R (tilt R (ν d) f))) ≡ (ν (suc p) +ᵏ -ᵏ ν q) *ᵏ coef R (suc p) q (mk R d f)
      go d f (yes l) c =
          let n = d +ⁿ q - suc p in
          coef_in R p q d (up R (tilt R (ν d) f)) (suc n) (omega arith) ∙ ap₂ ◌*ᵏ◌ (same d n (omega arith)) (sym (coef_in R (suc p) q d f n (omega arith)))
      go d f (no l) (yes e) = coef_in R p q d (up R (tilt R (ν d) f)) 0 (omega arith) ∙ none d f (omega arith)
      go d f (no l) (no e) = coef_out R p q d (up R (tilt R (ν d) f)) (omega arith) ∙ none d f (omega arith)

  pub D_poly : (x : Lau R) → IsPoly R x → IsPoly R (D R x)
  D_poly x h zero = coef_D 0 1 x ∙ ap (λ c. c *ᵏ coef R 1 1 x) (R.laws.add_neg (ν 1)) ∙ r.zero_mul' R _
  D_poly x h (suc j) = coef_D 0 (suc (suc j)) x ∙ ap (λ c. (ν 1 +ᵏ -ᵏ ν (suc (suc j))) *ᵏ c) (coef_move R 1 (suc (suc j)) 0 (suc j) x (omega arith) ∙ h j) ∙ r.mul-zero R _

  -- ---- powers of constants, and lists that begin with zeros
  const_pow : (a : R.El) (n : ℕ) → pow (laurent R) (const R a) n ≡ const R (pow R a n)
  unfolding pow
  const_pow a zero = refl
  const_pow a (suc n) = ap (λ x. const R a * x) (const_pow a n) ∙ sym (const_mul R a (pow R a n))

  zeros_front : (k : ℕ) (l : List R.El) → ((i : ℕ) → i < k → get_or l i 0ᵏ ≡ 0ᵏ) → poly R l ≡ pow (laurent R) (t R) k * poly R (drop k l)
  unfolding pow
  zeros_front zero l h = sym (r.one-mul (laurent R) (poly R l))
  zeros_front (suc k) [] h = poly_nil R ∙ sym (ap (λ x. t R * pow (laurent R) (t R) k * x) (poly_nil R) ∙ r.mul-zero (laurent R) _)
  zeros_front (suc k) (a ∷ l) h =
      poly_cons R a l ∙ ap₂ (λ x y. x + t R * y) (ap (const R) (h 0 (omega arith)) ∙ const_zero R) (zeros_front k l (λ i u. h (suc i) (omega arith)))
      ∙ solve (laurent R) (zer :+ var 0 :* (var 1 :* var 2)) (var 0 :* var 1 :* var 2) tt (t R ∷ pow (laurent R) (t R) k ∷ poly R (drop k l) ∷ [])

  drop_at : (k : ℕ) (l : List R.El) (i : ℕ) → get_or (drop k l) i 0ᵏ ≡ get_or l (k +ⁿ i) 0ᵏ
  drop_at zero l i = ap (λ m. get_or l m 0ᵏ) (sym (N.zero-add i))
  drop_at (suc k) [] i = refl
  drop_at (suc k) (a ∷ l) i = drop_at k l i ∙ ap (λ m. get_or (a ∷ l) m 0ᵏ) (sym (N.suc-add k i))

-- Characteristic p: x ↦ x^p keeps sums of series, and constants; a number that p does not divide is no zero divisor.
module _ (K : CRing) (F : Field K) (p : ℕ) (pos : 0 < p)
    (frob : (x y : Lau K) → pow (laurent K) ((lops K).add x y) p ≡ (lops K).add (pow (laurent K) x p) (pow (laurent K) y p))
    (fermat : (a : K.El) → pow K a p ≡ a)
    (char : (n : ℕ) (a : K.El) → n % p ≢ 0 → K.ops.mul (nat K.ops n) a ≡ K.ops.𝟎 → a ≡ K.ops.𝟎) where
  open K.ops use {add as ◌+ᵏ◌, mul as ◌*ᵏ◌, neg as -ᵏ◌, 𝟎 as 0ᵏ, 𝟏 as 1ᵏ}
  open lops K use {add as ◌+◌, mul as ◌*◌, neg as -◌, 𝟎, 𝟏}

  infixl 60 ◌+◌ ◌+ᵏ◌
  infixl 70 ◌*◌ ◌*ᵏ◌
  infix 80 -◌ -ᵏ◌
  abbrev L : CRing
  L = laurent K

  -- only entries at multiples of p
  abbrev Flat : List K.El → Type 0
  Flat l = (n : ℕ) → n % p ≢ 0 → get_or l n 0ᵏ ≡ 0ᵏ

  abbrev Root : Lau K → Type 0
  Root x = (y : Lau K) × IsPoly K y × (x ≡ pow L y p)

  zero_pow : (n : ℕ) → 0 < n → pow L 𝟎 n ≡ 𝟎
  unfolding pow
  zero_pow zero h = absurd (omega arith)
  zero_pow (suc n) h = r.zero_mul' L (pow L 𝟎 n)

  -- a + t^p x = (a + t y)^p for x = y^p
  root_step : (a : K.El) (x : Lau K) → Root x → Root (const K a + pow L (t K) p * x)
  root_step a x (y, h, e) = (
    const K a + t K * y,
    add-IsPoly K (const K a) (t K * y) (const-IsPoly K a) (mul-IsPoly K (t K) y (t-IsPoly K) h),
    sym (frob (const K a) (t K * y)
        ∙ ap₂ ◌+◌ (const_pow K a p ∙ ap (const K) (fermat a)) (mul_pow L (t K) y p ∙ ap (λ z. pow L (t K) p * z) (sym e))),
  )

  -- the first entry, and p places further on
  flat_split : (k : ℕ) → p ≡ suc k → (a : K.El) (l : List K.El) → Flat (a ∷ l) → const K a + pow L (t K) p * poly K (drop k l) ≡ poly K (a ∷ l)
  flat_split k e a l h =
      sym (poly_cons K a l
      ∙ ap (λ x. const K a + t K * x) (zeros_front K k l (λ i u. h (suc i) (λ z. let w : suc i % p ≡ suc i = N.mod-eq_of_lt (let v : suc i < p = omega arith in v) in omega arith)))
      ∙ ap (λ x. const K a + x) (sym (L.laws.mul_assoc (t K) (pow L (t K) k) (poly K (drop k l))) ∙ ap (λ x. x * poly K (drop k l)) (sym (pow-suc L (t K) k) ∙ ap (pow L (t K)) (sym e))))

  flat_drop : (k : ℕ) → p ≡ suc k → (a : K.El) (l : List K.El) → Flat (a ∷ l) → Flat (drop k l)
  flat_drop k e a l h n z =
      drop_at K k l n ∙ h (suc (k +ⁿ n)) (λ w. z (sym (N.add-mod_left p n) ∙ ap (λ m. m % p) (let v : p +ⁿ n ≡ suc (k +ⁿ n) = omega arith in v) ∙ w))

  root_list : (k : ℕ) → p ≡ suc k → (l : List K.El) → Flat l → ((m : List K.El) → length m < length l → Flat m → Root (poly K m)) → Root (poly K l)
  root_list k e [] h ih = (𝟎, zero-IsPoly K, poly_nil K ∙ sym (zero_pow p pos))
  root_list k e (a ∷ l) h ih =
      let s : length (drop k l) ≡ length l - k = length-drop k l in
      let (y, g, w) = root_step a (poly K (drop k l)) (ih (drop k l) (omega arith) (flat_drop k e a l h)) in
      (y, g, sym (flat_split k e a l h) ∙ w)

  -- by induction on a bound of the length
  root : (k : ℕ) → p ≡ suc k → (b : ℕ) (l : List K.El) → length l ≤ b → Flat l → Root (poly K l)
  root k e zero l u h = root_list k e l h (λ m v g. absurd (omega arith))
  root k e (suc b) l u h = root_list k e l h (λ m v g. root k e b m (omega arith) g)

  pub D_root : (x : Lau K) → IsPoly K x → D K x ≡ 𝟎 → Root x
  unfolding nat
  D_root x h e =
      let (l, c) = coeff_list K F x h in
      let (y, g, w) = root (p - 1) (omega arith) (length l) l (omega arith) (λ n z. sym (poly_coef K l n) ∙ ap (coef K n 0) c.1 ∙ flat n z) in
      (y, g, sym c.1 ∙ w)
    where
      flat : (n : ℕ) → n % p ≢ 0 → coef K n 0 x ≡ 0ᵏ
      flat zero z = absurd (z (N.mod-eq_of_lt pos))
      flat (suc n) z = char (suc n) (coef K (suc n) 0 x) z
          (solve K (var 0 :* var 1) ((var 0 :+ minus zer) :* var 1) tt (nat K.ops (suc n) ∷ coef K (suc n) 0 x ∷ [])
          ∙ sym (coef_D K n 0 x) ∙ ap (coef K n 0) e ∙ coef_zero K n 0)
