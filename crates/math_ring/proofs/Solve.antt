-- A solver for commutative rings, by reflection. An equation of two expressions holds in every commutative ring where the
-- normal form of their difference has only zero coefficients, which antt computes (native ℕ coefficients).
-- The normal form is nested Horner: `lay p q` is p + x · q, x the first variable, p over the later ones alone. A
-- coefficient is a pair a − b of naturals, so no sign is ever looked at; a form need not be canonical, for only the
-- test "all coefficients are zero" is asked of it. Assumes nothing.
use mathlib.Core.Path.{◌≡◌, refl, sym, ap, ap₂, ◌∙◌}
use mathlib.Core.List.{List, [], ◌∷◌}
use mathlib.Core.Bool.{Bool, true, false, ◌&&◌}
use Prim.Native.Nat.{ℕ, zero, suc}
use Prim.Native.Nat as N
use lib.Dec.{T, eqb, eqb→eq}
use Rattle.math_ring.specs.Ring.{Ops, CRing, nat}
use Rattle.math_ring.proofs.Laws.{zero_add', one-mul, add-mul, mul_left_comm, swap4, neg_neg, neg_zero, neg_add, mul-zero, zero_mul', mul_neg, neg_mul, eq_of_sub, add_cancel, nat_add, nat_mul, nat_one}

-- ---- expressions
pub data Expr : Type 0 where
  var : ℕ → Expr
  lit : ℕ → Expr
  zer : Expr
  one : Expr
  plus : Expr → Expr → Expr
  times : Expr → Expr → Expr
  minus : Expr → Expr

infixl 60 ◌:+◌
infixl 60 ◌:-◌
infixl 70 ◌:*◌
abbrev pub ◌:+◌ : Expr → Expr → Expr
x :+ y = plus x y

abbrev pub ◌:*◌ : Expr → Expr → Expr
x :* y = times x y

abbrev pub ◌:-◌ : Expr → Expr → Expr
x :- y = plus x (minus y)

-- the expressions' own operations: a definition over any `Ops A`, read here, IS its expression
abbrev pub exprs : Ops Expr
exprs = record { add = plus; mul = times; neg = minus; 𝟎 = zer; 𝟏 = one }

-- ---- normal forms
pub data P : Type 0 where
  nil : P
  con : ℕ → ℕ → P
  lay : P → P → P

abbrev pub add_c : ℕ → ℕ → P → P
add_c a b nil = con a b
add_c a b (con c d) = con (N.◌+◌ a c) (N.◌+◌ b d)
add_c a b (lay p q) = lay (add_c a b p) q

abbrev pub add_p : P → P → P
add_p nil q = q
add_p (con a b) q = add_c a b q
add_p (lay p r) nil = lay p r
add_p (lay p r) (con c d) = lay (add_c c d p) r
add_p (lay p r) (lay q s) = lay (add_p p q) (add_p r s)

abbrev pub mul_c : ℕ → ℕ → P → P
mul_c a b nil = nil
mul_c a b (con c d) = con (N.◌+◌ (N.◌*◌ a c) (N.◌*◌ b d)) (N.◌+◌ (N.◌*◌ a d) (N.◌*◌ b c))
mul_c a b (lay p q) = lay (mul_c a b p) (mul_c a b q)

-- f on every coefficient of the first variable
abbrev pub map_l : (P → P) → P → P
map_l f nil = nil
map_l f (con c d) = lay (f (con c d)) nil
map_l f (lay p q) = lay (f p) (map_l f q)

-- times the first variable
abbrev pub shift : P → P
shift nil = nil
shift (con a b) = lay nil (con a b)
shift (lay p q) = lay nil (lay p q)

-- `map_l (mul_p p) q`, at once nothing where p is nothing
abbrev pub row_p : P → (P → P) → P → P
row_p nil f q = nil
row_p (con a b) f q = map_l f q
row_p (lay p r) f q = map_l f q

abbrev pub mul_p : P → P → P
mul_p nil q = nil
mul_p (con a b) q = mul_c a b q
mul_p (lay p r) q = add_p (row_p p (mul_p p) q) (shift (mul_p r q))

abbrev pub var_p : ℕ → P
var_p zero = lay nil (con 1 0)
var_p (suc i) = lay (var_p i) nil

abbrev pub norm : Expr → P
norm (var i) = var_p i
norm (lit n) = con n 0
norm zer = nil
norm one = con 1 0
norm (plus x y) = add_p (norm x) (norm y)
norm (times x y) = mul_p (norm x) (norm y)
norm (minus x) = mul_c 0 1 (norm x)

abbrev pub is_zero : P → Bool
is_zero nil = true
is_zero (con a b) = eqb a b
is_zero (lay p q) = is_zero p && is_zero q

-- what the user's `tt` proves
abbrev pub same : Expr → Expr → Bool
same x y = is_zero (add_p (norm x) (mul_c 0 1 (norm y)))

and_l : (a b : Bool) → T (a && b) → T a
and_l true b t = tt
and_l false b t = t

and_r : (a b : Bool) → T (a && b) → T b
and_r true b t = t
and_r false b t = absurd t

-- ---- what they mean in a ring
module _ {A : Type 0} (o : Ops A) where
  abbrev pub hd : List A → A
  hd [] = o.𝟎
  hd (x ∷ ρ) = x

  abbrev pub tl : List A → List A
  tl [] = []
  tl (x ∷ ρ) = ρ

  abbrev pub nth : List A → ℕ → A
  nth ρ zero = hd ρ
  nth ρ (suc i) = nth (tl ρ) i

  abbrev pub eval : Expr → List A → A
  eval (var i) ρ = nth ρ i
  eval (lit n) ρ = nat o n
  eval zer ρ = o.𝟎
  eval one ρ = o.𝟏
  eval (plus x y) ρ = o.add (eval x ρ) (eval y ρ)
  eval (times x y) ρ = o.mul (eval x ρ) (eval y ρ)
  eval (minus x) ρ = o.neg (eval x ρ)

  abbrev pub coef : ℕ → ℕ → A
  coef a b = o.add (nat o a) (o.neg (nat o b))

  abbrev pub ev : P → List A → A
  ev nil ρ = o.𝟎
  ev (con a b) ρ = coef a b
  ev (lay p q) ρ = o.add (ev p (tl ρ)) (o.mul (hd ρ) (ev q ρ))

-- an equation of expressions, for the forms `ring₁` .. `ring₆` below
infix 40 ◌:=◌
pub data Eqn : Type 0 where
  ◌:=◌ : Expr → Expr → Eqn

abbrev pub ok : Eqn → Bool
ok (x := y) = same x y

abbrev pub Means : {A : Type 0} → Ops A → Eqn → List A → Type 0
Means o (x := y) ρ = eval o x ρ ≡ eval o y ρ

-- hypotheses, with their multipliers: c · (l = r)
pub data Hyp : Type 0 where
  hyp : Expr → Expr → Expr → Hyp

abbrev pub lefts : List Hyp → Expr
lefts [] = zer
lefts (hyp c l r ∷ hs) = plus (times c l) (lefts hs)

abbrev pub rights : List Hyp → Expr
rights [] = zer
rights (hyp c l r ∷ hs) = plus (times c r) (rights hs)

abbrev pub Holds : {A : Type 0} → Ops A → List Hyp → List A → Type 0
Holds o [] ρ = Unit {0}
Holds o (hyp c l r ∷ hs) ρ = (eval o l ρ ≡ eval o r ρ) × Holds o hs ρ

-- ---- soundness
module _ (R : CRing) where
  open R.ops use {add as ◌+◌, mul as ◌*◌, neg as -◌, 𝟎, 𝟏}
  open R.laws use {add_assoc, add_comm, add-zero, add_neg, mul_assoc, mul_comm, mul-one, mul-add}

  infixl 60 ◌+◌
  infixl 70 ◌*◌
  infix 80 -◌
  abbrev o : Ops R.El
  o = R.ops

  coef_add : (a b c d : ℕ) → coef o (N.◌+◌ a c) (N.◌+◌ b d) ≡ coef o a b + coef o c d
  coef_add a b c d =
      ap₂ (λ s t. s + - t) (nat_add R a c) (nat_add R b d)
      ∙ ap (λ t. (nat o a + nat o c) + t) (neg_add R (nat o b) (nat o d))
      ∙ swap4 R (nat o a) (nat o c) (- nat o b) (- nat o d)

  -- (a − b) x, and (a − b)(c − d)
  sub_mul : (a b x : R.El) → (a + - b) * x ≡ a * x + - (b * x)
  sub_mul a b x = add-mul R a (- b) x ∙ ap (λ t. a * x + t) (neg_mul R b x)

  pair_mul : (a b c d : R.El) → (a * c + b * d) + - (a * d + b * c) ≡ (a + - b) * (c + - d)
  pair_mul a b c d =
      ap (λ t. (a * c + b * d) + t) (neg_add R (a * d) (b * c))
      ∙ swap4 R (a * c) (b * d) (- (a * d)) (- (b * c))
      ∙ ap₂ ◌+◌ (ap (λ t. a * c + t) (sym (mul_neg R a d)) ∙ sym (mul-add a c (- d))) bd
      ∙ sym (sub_mul a b (c + - d))
    where
      bd : b * d + - (b * c) ≡ - (b * (c + - d))
      bd =
          add_comm (b * d) (- (b * c))
          ∙ ap (λ t. - (b * c) + t) (sym (neg_neg R (b * d)) ∙ ap (λ t. - t) (sym (mul_neg R b d)))
          ∙ sym (neg_add R (b * c) (b * - d))
          ∙ ap (λ t. - t) (sym (mul-add b c (- d)))

  coef_mul : (a b c d : ℕ) → coef o (N.◌+◌ (N.◌*◌ a c) (N.◌*◌ b d)) (N.◌+◌ (N.◌*◌ a d) (N.◌*◌ b c)) ≡ coef o a b * coef o c d
  coef_mul a b c d =
      ap₂ (λ s t. s + - t)
      (nat_add R (N.◌*◌ a c) (N.◌*◌ b d) ∙ ap₂ ◌+◌ (nat_mul R a c) (nat_mul R b d))
      (nat_add R (N.◌*◌ a d) (N.◌*◌ b c) ∙ ap₂ ◌+◌ (nat_mul R a d) (nat_mul R b c))
      ∙ pair_mul (nat o a) (nat o b) (nat o c) (nat o d)

  ev_add_c : (a b : ℕ) (p : P) (ρ : List R.El) → ev o (add_c a b p) ρ ≡ coef o a b + ev o p ρ
  ev_add_c a b nil ρ = sym (add-zero (coef o a b))
  ev_add_c a b (con c d) ρ = coef_add a b c d
  ev_add_c a b (lay p q) ρ =
      ap (λ t. t + hd o ρ * ev o q ρ) (ev_add_c a b p (tl o ρ))
      ∙ add_assoc (coef o a b) (ev o p (tl o ρ)) (hd o ρ * ev o q ρ)

  ev_add_p : (p q : P) (ρ : List R.El) → ev o (add_p p q) ρ ≡ ev o p ρ + ev o q ρ
  ev_add_p nil q ρ = sym (zero_add' R (ev o q ρ))
  ev_add_p (con a b) q ρ = ev_add_c a b q ρ
  ev_add_p (lay p r) nil ρ = sym (add-zero (ev o (lay p r) ρ))
  ev_add_p (lay p r) (con c d) ρ =
      ap (λ t. t + hd o ρ * ev o r ρ) (ev_add_c c d p (tl o ρ))
      ∙ add_assoc (coef o c d) (ev o p (tl o ρ)) (hd o ρ * ev o r ρ)
      ∙ add_comm (coef o c d) (ev o (lay p r) ρ)
  ev_add_p (lay p r) (lay q s) ρ =
      ap₂ (λ t u. t + hd o ρ * u) (ev_add_p p q (tl o ρ)) (ev_add_p r s ρ)
      ∙ ap (λ t. (ev o p (tl o ρ) + ev o q (tl o ρ)) + t) (mul-add (hd o ρ) (ev o r ρ) (ev o s ρ))
      ∙ swap4 R (ev o p (tl o ρ)) (ev o q (tl o ρ)) (hd o ρ * ev o r ρ) (hd o ρ * ev o s ρ)

  -- s · (p + x q) = s p + x (s q)
  through : (s p x q : R.El) → s * p + x * (s * q) ≡ s * (p + x * q)
  through s p x q = ap (λ t. s * p + t) (mul_left_comm R x s q) ∙ sym (mul-add s p (x * q))

  ev_mul_c : (a b : ℕ) (p : P) (ρ : List R.El) → ev o (mul_c a b p) ρ ≡ coef o a b * ev o p ρ
  ev_mul_c a b nil ρ = sym (mul-zero R (coef o a b))
  ev_mul_c a b (con c d) ρ = coef_mul a b c d
  ev_mul_c a b (lay p q) ρ =
      ap₂ (λ t u. t + hd o ρ * u) (ev_mul_c a b p (tl o ρ)) (ev_mul_c a b q ρ)
      ∙ through (coef o a b) (ev o p (tl o ρ)) (hd o ρ) (ev o q ρ)

  ev_map_l : (f : P → P) (s : R.El) (ρ : List R.El)
      → ((q : P) → ev o (f q) (tl o ρ) ≡ s * ev o q (tl o ρ))
      → (q : P) → ev o (map_l f q) ρ ≡ s * ev o q ρ
  ev_map_l f s ρ h nil = sym (mul-zero R s)
  ev_map_l f s ρ h (con c d) =
      ap₂ ◌+◌ (h (con c d)) (mul-zero R (hd o ρ)) ∙ add-zero (s * coef o c d)
  ev_map_l f s ρ h (lay p q) =
      ap₂ (λ t u. t + hd o ρ * u) (h p) (ev_map_l f s ρ h q)
      ∙ through s (ev o p (tl o ρ)) (hd o ρ) (ev o q ρ)

  ev_shift : (p : P) (ρ : List R.El) → ev o (shift p) ρ ≡ hd o ρ * ev o p ρ
  ev_shift nil ρ = sym (mul-zero R (hd o ρ))
  ev_shift (con a b) ρ = zero_add' R (hd o ρ * coef o a b)
  ev_shift (lay p q) ρ = zero_add' R (hd o ρ * ev o (lay p q) ρ)

  ev_row_p : (p : P) (f : P → P) (ρ : List R.El)
      → ((q : P) → ev o (f q) (tl o ρ) ≡ ev o p (tl o ρ) * ev o q (tl o ρ))
      → (q : P) → ev o (row_p p f q) ρ ≡ ev o p (tl o ρ) * ev o q ρ
  ev_row_p nil f ρ h q = sym (zero_mul' R (ev o q ρ))
  ev_row_p (con a b) f ρ h q = ev_map_l f (coef o a b) ρ h q
  ev_row_p (lay p r) f ρ h q = ev_map_l f (ev o (lay p r) (tl o ρ)) ρ h q

  ev_mul_p : (p q : P) (ρ : List R.El) → ev o (mul_p p q) ρ ≡ ev o p ρ * ev o q ρ
  ev_mul_p nil q ρ = sym (zero_mul' R (ev o q ρ))
  ev_mul_p (con a b) q ρ = ev_mul_c a b q ρ
  ev_mul_p (lay p r) q ρ =
      ev_add_p (row_p p (mul_p p) q) (shift (mul_p r q)) ρ
      ∙ ap₂ ◌+◌
      (ev_row_p p (mul_p p) ρ (λ q'. ev_mul_p p q' (tl o ρ)) q)
      (ev_shift (mul_p r q) ρ ∙ ap (λ t. hd o ρ * t) (ev_mul_p r q ρ) ∙ sym (mul_assoc (hd o ρ) (ev o r ρ) (ev o q ρ)))
      ∙ sym (add-mul R (ev o p (tl o ρ)) (hd o ρ * ev o r ρ) (ev o q ρ))

  coef_lit : (n : ℕ) → coef o n 0 ≡ nat o n
  unfolding nat
  coef_lit n = ap (λ t. nat o n + t) (neg_zero R) ∙ add-zero (nat o n)

  ev_var_p : (i : ℕ) (ρ : List R.El) → ev o (var_p i) ρ ≡ nth o ρ i
  ev_var_p zero ρ =
      zero_add' R (hd o ρ * coef o 1 0)
      ∙ ap (λ t. hd o ρ * t) (coef_lit 1 ∙ nat_one R)
      ∙ mul-one (hd o ρ)
  ev_var_p (suc i) ρ =
      ap₂ ◌+◌ (ev_var_p i (tl o ρ)) (mul-zero R (hd o ρ)) ∙ add-zero (nth o (tl o ρ) i)

  ev_neg : (p : P) (ρ : List R.El) → ev o (mul_c 0 1 p) ρ ≡ - ev o p ρ
  unfolding nat
  ev_neg p ρ =
      ev_mul_c 0 1 p ρ
      ∙ ap (λ t. t * ev o p ρ) (zero_add' R (- nat o 1) ∙ ap (λ t. - t) (nat_one R))
      ∙ neg_mul R 𝟏 (ev o p ρ)
      ∙ ap (λ t. - t) (one-mul R (ev o p ρ))

  ev_norm : (e : Expr) (ρ : List R.El) → ev o (norm e) ρ ≡ eval o e ρ
  ev_norm (var i) ρ = ev_var_p i ρ
  ev_norm (lit n) ρ = coef_lit n
  ev_norm zer ρ = refl
  ev_norm one ρ = coef_lit 1 ∙ nat_one R
  ev_norm (plus x y) ρ = ev_add_p (norm x) (norm y) ρ ∙ ap₂ ◌+◌ (ev_norm x ρ) (ev_norm y ρ)
  ev_norm (times x y) ρ = ev_mul_p (norm x) (norm y) ρ ∙ ap₂ ◌*◌ (ev_norm x ρ) (ev_norm y ρ)
  ev_norm (minus x) ρ = ev_neg (norm x) ρ ∙ ap (λ t. - t) (ev_norm x ρ)

  ev_is_zero : (p : P) → T (is_zero p) → (ρ : List R.El) → ev o p ρ ≡ 𝟎
  ev_is_zero nil t ρ = refl
  ev_is_zero (con a b) t ρ = ap (λ n. nat o n + - nat o b) (eqb→eq a b t) ∙ add_neg (nat o b)
  ev_is_zero (lay p q) t ρ =
      ap₂ (λ s u. s + hd o ρ * u) (ev_is_zero p (and_l (is_zero p) (is_zero q) t) (tl o ρ)) (ev_is_zero q (and_r (is_zero p) (is_zero q) t) ρ)
      ∙ zero_add' R (hd o ρ * 𝟎)
      ∙ mul-zero R (hd o ρ)

  -- THE SOLVER: `solve R x y tt ρ`
  pub solve : (x y : Expr) → T (same x y) → (ρ : List R.El) → eval o x ρ ≡ eval o y ρ
  solve x y t ρ =
      sym (ev_norm x ρ)
      ∙ eq_of_sub R (ev o (norm x) ρ) (ev o (norm y) ρ)
      (ap (λ s. ev o (norm x) ρ + s) (sym (ev_neg (norm y) ρ))
      ∙ sym (ev_add_p (norm x) (mul_c 0 1 (norm y)) ρ)
      ∙ ev_is_zero (add_p (norm x) (mul_c 0 1 (norm y))) t ρ)
      ∙ ev_norm y ρ

  -- The solver under hypotheses. Each is an equation l = r of expressions that holds at ρ, with the multiplier c that the
  -- author found: x = y follows where x − y is the sum of the c · (l − r).
  pub solve_by : (x y : Expr) (hs : List Hyp) → T (same (plus x (rights hs)) (plus y (lefts hs))) → (ρ : List R.El) → Holds o hs ρ → eval o x ρ ≡ eval o y ρ
  solve_by x y hs t ρ k =
      add_cancel R (eval o x ρ) (eval o y ρ) (eval o (rights hs) ρ)
      (solve (plus x (rights hs)) (plus y (lefts hs)) t ρ ∙ ap (λ s. eval o y ρ + s) (sides hs k))
    where
      sides : (gs : List Hyp) → Holds o gs ρ → eval o (lefts gs) ρ ≡ eval o (rights gs) ρ
      sides [] u = refl
      sides (hyp c l r ∷ gs) u = ap₂ (λ s w. eval o c ρ * s + w) u.0 (sides gs u.1)

  pub solve_eqn : (e : Eqn) → T (ok e) → (ρ : List R.El) → Means o e ρ
  solve_eqn (x := y) t ρ = solve x y t ρ

  -- the solver with the variables bound by a λ: `ring₂ R (λ x y. x :+ y := y :+ x) tt a b : a + b ≡ b + a`
  pub ring₁ : (f : Expr → Eqn) → T (ok (f (var 0))) → (a : R.El) → Means o (f (var 0)) (a ∷ [])
  ring₁ f t a = solve_eqn (f (var 0)) t (a ∷ [])

  pub ring₂ : (f : Expr → Expr → Eqn) → T (ok (f (var 0) (var 1))) → (a b : R.El) → Means o (f (var 0) (var 1)) (a ∷ b ∷ [])
  ring₂ f t a b = solve_eqn (f (var 0) (var 1)) t (a ∷ b ∷ [])

  pub ring₃ : (f : Expr → Expr → Expr → Eqn) → T (ok (f (var 0) (var 1) (var 2))) → (a b c : R.El) → Means o (f (var 0) (var 1) (var 2)) (a ∷ b ∷ c ∷ [])
  ring₃ f t a b c = solve_eqn (f (var 0) (var 1) (var 2)) t (a ∷ b ∷ c ∷ [])

  pub ring₄ : (f : Expr → Expr → Expr → Expr → Eqn) → T (ok (f (var 0) (var 1) (var 2) (var 3))) → (a b c d : R.El) → Means o (f (var 0) (var 1) (var 2) (var 3)) (a ∷ b ∷ c ∷ d ∷ [])
  ring₄ f t a b c d = solve_eqn (f (var 0) (var 1) (var 2) (var 3)) t (a ∷ b ∷ c ∷ d ∷ [])
