-- The primes p with p mod 3 = 2. All of it from Fermat: 3 · ((2p − 1)/3) = p + (p − 1), and x^p x^(p−1) = x.
--   root                    x^((2p − 1)/3)
--   cube_root, root_cube    cubing is a bijection, `root` its inverse
--   cube_inj                one cube, one root
--   three, two              3 ≠ 0, and 2 ≠ 0 for p > 2; `thirds` and `halves` are their inverses
--   no_omega                z² + z + 1 ≠ 0: no cube root of 1 but 1
--   norm_zero               u² − u v + v² = 0 only for u = v = 0
--   norm_zero'              3 u² + v² = 0 only for u = v = 0
use mathlib.Core.Path.{◌≡◌, sym, ap, ◌∙◌}
use mathlib.Core.Logic.{◌≢◌}
use mathlib.Core.List.{[], ◌∷◌}
use Prim.Native.Nat.{ℕ, ◌+◌, ◌*◌, ◌-◌, ◌/◌, ◌%◌, ◌<◌}
use native.Mathlib.Nat.{mod-eq_of_lt, mod-add-div, div-eq_of_eq-mul_right}
use native.Mathlib.Omega.{arith}
use native.Mathlib.Decide.{dec_lt}
use Rattle.math_ring.specs.Ring.{nat}
use Rattle.math_ring.proofs.Solve.{var, lit, one, zer, minus, ◌:+◌, ◌:-◌, ◌:*◌, hyp, solve, solve_by}
use Rattle.math_ring.specs.Power.{pow}
use Rattle.math_ring.proofs.Power.{pow-suc, pow_add, pow_mul, pow_1}
use Rattle.math_fp.specs.Fp.{F, Prime, third}
use Rattle.math_fp.proofs.Field.{Fld, inverse, cancel_zero, field}
use Rattle.math_fp.proofs.Fermat.{nat_cls, cls_nonzero, fermat, fermat_mul}

pub third_is : (p : ℕ) → p % 3 ≡ 2 → 3 * third p ≡ p + (p - 1)
third_is p m =
    let d : p % 3 + 3 * (p / 3) ≡ p = mod-add-div p 3 in
    let e : 2 * p - 1 ≡ 3 * (2 * (p / 3) + 1) = omega arith in
    let q : third p ≡ 2 * (p / 3) + 1 = div-eq_of_eq-mul_right {n = 3} (omega arith) e in
    omega arith

module _ (p : ℕ) (pr : Prime p) (m : p % 3 ≡ 2) where
  open (Fld p pr).ops use {add as ◌⊕◌, mul as ◌⊗◌, neg as ⊖◌, 𝟎, 𝟏}

  infixl 60 ◌⊕◌
  infixl 70 ◌⊗◌
  infix 80 ⊖◌
  abbrev cube : F p → F p
  cube x = x ⊗ x ⊗ x

  abbrev pub root : F p → F p
  root x = pow (Fld p pr) x (third p)

  cube_is : (x : F p) → cube x ≡ pow (Fld p pr) x 3
  cube_is x =
      let X = var 0 in
      solve (Fld p pr) (X :* X :* X) (X :* (X :* X)) tt (x ∷ [])
      ∙ ap (λ t. x ⊗ (x ⊗ t)) (sym (pow_1 (Fld p pr) x))
      ∙ ap (λ t. x ⊗ t) (sym (pow-suc (Fld p pr) x 1))
      ∙ sym (pow-suc (Fld p pr) x 2)

  -- x^(p + (p − 1)) = x
  around : (x : F p) → pow (Fld p pr) x (3 * third p) ≡ x
  around x =
      ap (pow (Fld p pr) x) (third_is p m)
      ∙ pow_add (Fld p pr) x p (p - 1)
      ∙ ap (λ t. t ⊗ pow (Fld p pr) x (p - 1)) (fermat p pr x)
      ∙ fermat_mul p pr x

  pub cube_root : (x : F p) → cube (root x) ≡ x
  cube_root x = cube_is (root x) ∙ sym (pow_mul (Fld p pr) x 3 (third p)) ∙ around x

  pub root_cube : (x : F p) → root (cube x) ≡ x
  root_cube x =
      ap root (cube_is x)
      ∙ sym (pow_mul (Fld p pr) x (third p) 3)
      ∙ ap (pow (Fld p pr) x) (let e : third p * 3 ≡ 3 * third p = omega arith in e)
      ∙ around x

  pub cube_inj : (x y : F p) → cube x ≡ cube y → x ≡ y
  cube_inj x y e = sym (root_cube x) ∙ ap root e ∙ root_cube y

  -- 3 ≠ 0, and 2 ≠ 0 where p is odd
  pub three : nat (Fld p pr).ops 3 ≢ 𝟎
  three e = cls_nonzero p pr 3 (small (dec_lt 3 p)) (sym (nat_cls p pr 3) ∙ e)
    where
      small : Dec (3 < p) → 3 % p ≢ 0
      small (yes l) z = let y : 3 % p ≡ 3 = mod-eq_of_lt l in omega arith
      small (no f) z =
          let b : 1 < p = pr.big in
          let t : p ≡ 2 = omega (arith, mod-add-div p 3) in
          let y : 3 % p ≡ 1 = ap (λ n. 3 % n) t in omega arith

  pub two : 2 < p → nat (Fld p pr).ops 2 ≢ 𝟎
  two l e = cls_nonzero p pr 2 (λ z. let y : 2 % p ≡ 2 = mod-eq_of_lt l in omega arith) (sym (nat_cls p pr 2) ∙ e)

  -- so they have inverses
  pub thirds : (w : F p) × (nat (Fld p pr).ops 3 ⊗ w ≡ 𝟏)
  thirds = inverse p pr (nat (Fld p pr).ops 3) three

  pub halves : 2 < p → (w : F p) × (nat (Fld p pr).ops 2 ⊗ w ≡ 𝟏)
  halves l = inverse p pr (nat (Fld p pr).ops 2) (two l)

  -- a multiple 3 w² = 0 forces w = 0
  three_square : (w : F p) → nat (Fld p pr).ops 3 ⊗ (w ⊗ w) ≡ 𝟎 → w ≡ 𝟎
  three_square w h = square ((field p pr).dec w 𝟎) (cancel_zero p pr (nat (Fld p pr).ops 3) (w ⊗ w) three h)
    where
      square : Dec (w ≡ 𝟎) → w ⊗ w ≡ 𝟎 → w ≡ 𝟎
      square (yes e) z = e
      square (no f) z = cancel_zero p pr w w f z

  -- no cube root of 1 but 1
  pub no_omega : (z : F p) → z ⊗ z ⊕ z ⊕ 𝟏 ≢ 𝟎
  no_omega z h =
      let Z = var 0 in
      -- z³ − 1 = (z − 1)(z² + z + 1)
      let k : cube z ≡ cube 𝟏 = solve_by (Fld p pr) (Z :* Z :* Z) (one :* one :* one) (hyp (Z :- one) (Z :* Z :+ Z :+ one) zer ∷ []) tt (z ∷ []) (h, tt) in
      let e : z ≡ 𝟏 = cube_inj z 𝟏 k in
      -- 3 = (z² + z + 1) − (z + 2)(z − 1)
      three (solve_by (Fld p pr) (lit 3) zer (hyp one (Z :* Z :+ Z :+ one) zer ∷ hyp (minus (Z :+ lit 2)) Z one ∷ []) tt (z ∷ []) (h, (e, tt)))

  -- the norm form of the cube roots of 1
  pub norm_zero : (u v : F p) → u ⊗ u ⊕ ⊖ (u ⊗ v) ⊕ v ⊗ v ≡ 𝟎 → (u ≡ 𝟎) × (v ≡ 𝟎)
  norm_zero u v h =
      let U = var 0 in let W = var 1 in
      -- u³ − (− v)³ = (u + v)(u² − u v + v²)
      let k : cube u ≡ cube (⊖ v) = solve_by (Fld p pr) (U :* U :* U) (minus W :* minus W :* minus W) (hyp (U :+ W) (U :* U :+ minus (U :* W) :+ W :* W) zer ∷ []) tt (u ∷ v ∷ []) (h, tt) in
      let e : u ≡ ⊖ v = cube_inj u (⊖ v) k in
      -- 3 v² = (u² − u v + v²) − (u − 2 v)(u + v)
      let t : nat (Fld p pr).ops 3 ⊗ (v ⊗ v) ≡ 𝟎 = solve_by (Fld p pr) (lit 3 :* (W :* W)) zer (hyp one (U :* U :+ minus (U :* W) :+ W :* W) zer ∷ hyp (minus (U :- lit 2 :* W)) U (minus W) ∷ []) tt (u ∷ v ∷ []) (h, (e, tt)) in
      let z : v ≡ 𝟎 = three_square v t in
      (solve_by (Fld p pr) U zer (hyp one U (minus W) ∷ hyp (minus one) W zer ∷ []) tt (u ∷ v ∷ []) (e, (z, tt)), z)

  -- the same with the square completed; p odd
  pub norm_zero' : 2 < p → (u v : F p) → nat (Fld p pr).ops 3 ⊗ (u ⊗ u) ⊕ v ⊗ v ≡ 𝟎 → (u ≡ 𝟎) × (v ≡ 𝟎)
  norm_zero' l u v h =
      let (w, i) = halves l in
      let U = var 0 in let W = var 1 in let H = var 2 in
      -- with a = (u + v)/2: a² − a u + u² = (3 u² + v²)/4
      let (x, y) = norm_zero (w ⊗ (u ⊕ v)) u
      (solve_by (Fld p pr) (H :* (U :+ W) :* (H :* (U :+ W)) :+ minus (H :* (U :+ W) :* U) :+ U :* U) zer
      (hyp (H :* H) (lit 3 :* (U :* U) :+ W :* W) zer ∷ hyp (H :* U :* W :- U :* U :* (H :+ one)) (lit 2 :* H) one ∷ []) tt (u ∷ v ∷ w ∷ []) (h, (i, tt))) in
      (y, solve_by (Fld p pr) W zer (hyp (lit 2) (H :* (U :+ W)) zer ∷ hyp (minus (lit 2 :* H)) U zer ∷ hyp (minus W) (lit 2 :* H) one ∷ []) tt (u ∷ v ∷ w ∷ []) (x, (y, (i, tt))))
