-- The two linear equations, for numbers mod p.
--   start_square, start_product   the pair of index 0: r0 = c and w0 = 3 g0 h0 c u
--   next_square, next_product     the pair of index i: r_i = u (h0 a + r0 b) and w_i = u (2 r0 a − w0 b), for what is missing, a and b
-- u is the inverse of 3 r0². Both go through the ring of the classes mod p, for any p > 0.
use mathlib.Core.Path.{◌≡◌, sym, ap, ap₂, ◌∙◌}
use mathlib.Core.List.{[], ◌∷◌}
use Prim.Native.Nat.{ℕ, ◌+◌, ◌*◌, ◌-◌, ◌%◌, ◌≤◌, ◌<◌}
use native.Mathlib.Nat.{mod-mod, mod-lt}
use native.Mathlib.Omega.{arith}
use Rattle.math_ring.proofs.Laws as r
use Rattle.math_ring.proofs.Solve.{var, one, zer, minus, ◌:+◌, ◌:*◌, hyp, solve_by}
use Rattle.math_fp.specs.Fp.{F, cls, fops}
use Rattle.math_fp.proofs.Ring.{F_path, ring, cls_add, cls_mul, cls_p}

abbrev pub w_first : ℕ → ℕ → ℕ → ℕ → ℕ → ℕ
w_first p g h a u = (3 * ((g * h) % p) * ((a * u) % p)) % p

-- x − y, of two numbers and their remainders
abbrev pub lack : ℕ → ℕ → ℕ → ℕ
lack p x y = (x % p + (p - y % p)) % p

abbrev pub r_next : ℕ → ℕ → ℕ → ℕ → ℕ → ℕ → ℕ
r_next p u h a x y = ((h * x + a * y) % p * u) % p

abbrev pub w_next : ℕ → ℕ → ℕ → ℕ → ℕ → ℕ → ℕ
w_next p u w a x y = ((2 * a * x + w * (p - y)) % p * u) % p

pub r_next_below : (p u h a x y : ℕ) → 0 < p → r_next p u h a x y < p
r_next_below p u h a x y pos = mod-lt ((h * x + a * y) % p * u) pos

pub w_next_below : (p u w a x y : ℕ) → 0 < p → w_next p u w a x y < p
w_next_below p u w a x y pos = mod-lt ((2 * a * x + w * (p - y)) % p * u) pos

module _ (p : ℕ) (pos : 0 < p) where
  open fops p pos use {add as ◌⊕◌, mul as ◌⊗◌, neg as ⊖◌, 𝟎, 𝟏}

  infixl 60 ◌⊕◌
  infixl 70 ◌⊗◌
  infix 80 ⊖◌
  abbrev c : ℕ → F p
  c = cls p pos

  -- remainders and classes
  pub of_mod : (a b : ℕ) → a % p ≡ b % p → c a ≡ c b
  of_mod a b e = F_path e

  pub to_mod : (a b : ℕ) → c a ≡ c b → a % p ≡ b % p
  to_mod a b e = ap (λ (x : F p). x.0) e

  rem : (a : ℕ) → c (a % p) ≡ c a
  rem a = F_path (mod-mod a p)

  sum : (a b : ℕ) → c (a + b) ≡ c a ⊕ c b
  sum a b = sym (cls_add p pos a b)

  mul : (a b : ℕ) → c (a * b) ≡ c a ⊗ c b
  mul a b = sym (cls_mul p pos a b)

  neg : (a : ℕ) → a ≤ p → c (p - a) ≡ ⊖ c a
  neg a l = let e : a + (p - a) ≡ p = omega arith in r.neg_unique (ring p pos) (c a) (c (p - a)) (sym (sum a (p - a)) ∙ ap c e ∙ cls_p p pos)

  two : c 2 ≡ 𝟏 ⊕ 𝟏
  two = sum 1 1

  three : c 3 ≡ 𝟏 ⊕ (𝟏 ⊕ 𝟏)
  three = sum 1 2 ∙ ap (λ x. 𝟏 ⊕ x) two

  -- 3 a² u = 1, in the ring
  unit_of : (a u : ℕ) → (3 * (a * a) * u) % p ≡ 1 % p → (𝟏 ⊕ (𝟏 ⊕ 𝟏)) ⊗ (c a ⊗ c a) ⊗ c u ≡ 𝟏
  unit_of a u e = sym (mul (3 * (a * a)) u ∙ ap (λ x. x ⊗ c u) (mul 3 (a * a) ∙ ap₂ ◌⊗◌ three (mul a a))) ∙ of_mod (3 * (a * a) * u) 1 e

  -- ---- index 0
  module _ (g h a u : ℕ) (unit : (3 * (a * a) * u) % p ≡ 1 % p) (cube : (a * a * a) % p ≡ (g * (h * h)) % p) where
    abbrev first_w : ℕ
    first_w = w_first p g h a u

    w_is : c first_w ≡ (𝟏 ⊕ (𝟏 ⊕ 𝟏)) ⊗ (c g ⊗ c h) ⊗ (c a ⊗ c u)
    w_is = rem (3 * ((g * h) % p) * ((a * u) % p)) ∙ mul (3 * ((g * h) % p)) ((a * u) % p) ∙ ap₂ ◌⊗◌ (mul 3 ((g * h) % p) ∙ ap₂ ◌⊗◌ three (rem (g * h) ∙ mul g h)) (rem (a * u) ∙ mul a u)

    cube_of : c a ⊗ c a ⊗ c a ≡ c g ⊗ (c h ⊗ c h)
    cube_of = sym (mul (a * a) a ∙ ap (λ x. x ⊗ c a) (mul a a)) ∙ of_mod (a * a * a) (g * (h * h)) cube ∙ mul g (h * h) ∙ ap (λ x. c g ⊗ x) (mul h h)

    pub start_square : (a * a) % p ≡ (h * first_w) % p
    start_square =
        to_mod (a * a) (h * first_w)
        (mul a a
        ∙ solve_by (ring p pos) (var 0 :* var 0) (var 2 :* ((one :+ (one :+ one)) :* (var 1 :* var 2) :* (var 0 :* var 3)))
        (hyp (minus (var 0 :* var 0)) ((one :+ (one :+ one)) :* (var 0 :* var 0) :* var 3) one ∷ hyp ((one :+ (one :+ one)) :* var 0 :* var 3) (var 0 :* var 0 :* var 0) (var 1 :* (var 2 :* var 2)) ∷ []) tt
        (c a ∷ c g ∷ c h ∷ c u ∷ []) (unit_of a u unit, (cube_of, tt))
        ∙ sym (mul h first_w ∙ ap (λ x. c h ⊗ x) w_is))

    pub start_product : (a * first_w) % p ≡ (g * h) % p
    start_product =
        to_mod (a * first_w) (g * h)
        (mul a first_w ∙ ap (λ x. c a ⊗ x) w_is
        ∙ solve_by (ring p pos) (var 0 :* ((one :+ (one :+ one)) :* (var 1 :* var 2) :* (var 0 :* var 3))) (var 1 :* var 2) (hyp (var 1 :* var 2) ((one :+ (one :+ one)) :* (var 0 :* var 0) :* var 3) one ∷ []) tt
        (c a ∷ c g ∷ c h ∷ c u ∷ []) (unit_of a u unit, tt)
        ∙ sym (mul g h))

  -- ---- index i: gh, rw, hw, rr are the four products at i, of what is there
  module _ (h a w u gh rw hw rr : ℕ) (unit : (3 * (a * a) * u) % p ≡ 1 % p) (first : (a * a) % p ≡ (h * w) % p) where
    abbrev new_r : ℕ
    new_r = r_next p u h a (lack p gh rw) (lack p hw rr)

    abbrev new_w : ℕ
    new_w = w_next p u w a (lack p gh rw) (lack p hw rr)

    lack_is : (x y : ℕ) → c (lack p x y) ≡ c x ⊕ ⊖ c y
    lack_is x y = let l : y % p < p = mod-lt y pos in rem (x % p + (p - y % p)) ∙ sum (x % p) (p - y % p) ∙ ap₂ ◌⊕◌ (rem x) (neg (y % p) (omega arith) ∙ ap (λ z. ⊖ z) (rem y))

    lack_le : (x y : ℕ) → lack p x y ≤ p
    lack_le x y = let l : lack p x y < p = mod-lt (x % p + (p - y % p)) pos in omega arith

    r_is : c new_r ≡ (c h ⊗ (c gh ⊕ ⊖ c rw) ⊕ c a ⊗ (c hw ⊕ ⊖ c rr)) ⊗ c u
    r_is =
        let x = lack p gh rw in let y = lack p hw rr in
        rem ((h * x + a * y) % p * u) ∙ mul ((h * x + a * y) % p) u
        ∙ ap (λ z. z ⊗ c u) (rem (h * x + a * y) ∙ sum (h * x) (a * y) ∙ ap₂ ◌⊕◌ (mul h x ∙ ap (λ z. c h ⊗ z) (lack_is gh rw)) (mul a y ∙ ap (λ z. c a ⊗ z) (lack_is hw rr)))

    w_is' : c new_w ≡ ((𝟏 ⊕ 𝟏) ⊗ c a ⊗ (c gh ⊕ ⊖ c rw) ⊕ c w ⊗ ⊖ (c hw ⊕ ⊖ c rr)) ⊗ c u
    w_is' =
        let x = lack p gh rw in let y = lack p hw rr in
        rem ((2 * a * x + w * (p - y)) % p * u) ∙ mul ((2 * a * x + w * (p - y)) % p) u
        ∙ ap (λ z. z ⊗ c u) (rem (2 * a * x + w * (p - y)) ∙ sum (2 * a * x) (w * (p - y))
        ∙ ap₂ ◌⊕◌ (mul (2 * a) x ∙ ap₂ ◌⊗◌ (mul 2 a ∙ ap (λ z. z ⊗ c a) two) (lack_is gh rw)) (mul w (p - y) ∙ ap (λ z. c w ⊗ z) (neg y (lack_le hw rr) ∙ ap (λ z. ⊖ z) (lack_is hw rr))))

    square_of_lem : c a ⊗ c a ≡ c h ⊗ c w
    square_of_lem = sym (mul a a) ∙ of_mod (a * a) (h * w) first ∙ mul h w

    -- r² at i is rr + r_i r0 + r0 r_i, and H w is hw + h0 w_i
    pub next_square : (rr + (new_r * a + a * new_r)) % p ≡ (hw + (0 * w + h * new_w)) % p
    next_square =
        to_mod (rr + (new_r * a + a * new_r)) (hw + (0 * w + h * new_w))
        (sum rr (new_r * a + a * new_r) ∙ ap (λ z. c rr ⊕ z) (sum (new_r * a) (a * new_r) ∙ ap₂ ◌⊕◌ (mul new_r a ∙ ap (λ z. z ⊗ c a) r_is) (mul a new_r ∙ ap (λ z. c a ⊗ z) r_is))
        ∙ solve_by (ring p pos)
        (var 7 :+ ((var 0 :* (var 4 :+ minus (var 5)) :+ var 1 :* (var 6 :+ minus (var 7))) :* var 3 :* var 1 :+ var 1 :* ((var 0 :* (var 4 :+ minus (var 5)) :+ var 1 :* (var 6 :+ minus (var 7))) :* var 3)))
        (var 6 :+ (zer :* var 2 :+ var 0 :* (((one :+ one) :* var 1 :* (var 4 :+ minus (var 5)) :+ var 2 :* minus (var 6 :+ minus (var 7))) :* var 3)))
        (hyp (var 6 :+ minus (var 7)) ((one :+ (one :+ one)) :* (var 1 :* var 1) :* var 3) one ∷ hyp (minus ((var 6 :+ minus (var 7)) :* var 3)) (var 1 :* var 1) (var 0 :* var 2) ∷ []) tt
        (c h ∷ c a ∷ c w ∷ c u ∷ c gh ∷ c rw ∷ c hw ∷ c rr ∷ []) (unit_of a u unit, (square_of_lem, tt))
        ∙ sym (sum hw (0 * w + h * new_w) ∙ ap (λ z. c hw ⊕ z) (sum (0 * w) (h * new_w) ∙ ap₂ ◌⊕◌ (mul 0 w) (mul h new_w ∙ ap (λ z. c h ⊗ z) w_is'))))

    pub next_product : (rw + (new_r * w + a * new_w)) % p ≡ gh % p
    next_product =
        to_mod (rw + (new_r * w + a * new_w)) gh
        (sum rw (new_r * w + a * new_w) ∙ ap (λ z. c rw ⊕ z) (sum (new_r * w) (a * new_w) ∙ ap₂ ◌⊕◌ (mul new_r w ∙ ap (λ z. z ⊗ c w) r_is) (mul a new_w ∙ ap (λ z. c a ⊗ z) w_is'))
        ∙ solve_by (ring p pos)
        (var 5 :+ ((var 0 :* (var 4 :+ minus (var 5)) :+ var 1 :* (var 6 :+ minus (var 7))) :* var 3 :* var 2 :+ var 1 :* (((one :+ one) :* var 1 :* (var 4 :+ minus (var 5)) :+ var 2 :* minus (var 6 :+ minus (var 7))) :* var 3)))
        (var 4)
        (hyp (var 4 :+ minus (var 5)) ((one :+ (one :+ one)) :* (var 1 :* var 1) :* var 3) one ∷ hyp (minus ((var 4 :+ minus (var 5)) :* var 3)) (var 1 :* var 1) (var 0 :* var 2) ∷ []) tt
        (c h ∷ c a ∷ c w ∷ c u ∷ c gh ∷ c rw ∷ c hw ∷ c rr ∷ []) (unit_of a u unit, (square_of_lem, tt)))
