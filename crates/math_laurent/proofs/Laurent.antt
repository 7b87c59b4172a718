-- The ring of Laurent series. A law is proved at `mk`s, at a sum all of them with one offset d, where it is the law of power series.
--   laurent R      the ring k((1/t))
--   add_mk ..      the operations at elements with one offset
--   lau_ind2, 3    what holds of elements with one offset holds of all
--   const_add ..   constants are a subring; numerals are constants
use mathlib.Core.Path.{◌≡◌, refl, sym, ◌∙◌, ap, ap₂, fun_ext}
use mathlib.Core.HLevel.{Π_prop}
use mathlib.Core.Quot.{Quot-set}
use Prim.Native.Nat.{ℕ, zero, suc, ◌+◌}
use native.Mathlib.Nat as N
use native.Mathlib.Numerals.{one-add}
use Rattle.math_ring.specs.Ring.{Laws, CRing, nat}
use Rattle.math_ring.proofs.Laws as r
use Rattle.math_laurent.specs.Series.{Ser, cons, zero_s, up, ups, const_s, mul_s, sops}
use Rattle.math_laurent.specs.Laurent.{Lau, mk, mk_up, lau_ind, add_l, mul_l, neg_l, lops, const, t}
use Rattle.math_laurent.proofs.Series.{series, slaws, conv_mul, const_mul_at, up_zero, ups_add}

module _ (R : CRing) where
  -- any offset that is larger will do
  pub mk_ups : (n d : ℕ) (f : Ser R) → mk R d f ≡ mk R (n + d) (ups R n f)
  unfolding ups
  mk_ups zero d f = ap (λ e. mk R e f) (sym (N.zero-add d))
  mk_ups (suc n) d f = mk_ups n d f ∙ mk_up R (n + d) (ups R n f) ∙ ap (λ e. mk R e (up R (ups R n f))) (sym (N.suc-add n d))

  pub mk_zero : (d : ℕ) → mk R d (zero_s R) ≡ mk R 0 (zero_s R)
  mk_zero zero = refl
  mk_zero (suc d) = sym (mk_up R d (zero_s R) ∙ ap (mk R (suc d)) (up_zero R)) ∙ mk_zero d

  -- ---- the operations
  pub mul_mk : (d : ℕ) (f : Ser R) (e : ℕ) (g : Ser R) → mul_l R (mk R d f) (mk R e g) ≡ mk R (d + e) (mul_s R f g)
  unfolding mul_l
  mul_mk d f e g = ap (mk R (d + e)) (conv_mul R f g)

  pub add_mk : (d : ℕ) (f g : Ser R) → add_l R (mk R d f) (mk R d g) ≡ mk R d ((sops R).add f g)
  unfolding add_l
  add_mk d f g = sym (mk_ups d d ((sops R).add f g) ∙ ap (mk R (d + d)) (ups_add R d f g))

  pub neg_mk : (d : ℕ) (f : Ser R) → neg_l R (mk R d f) ≡ mk R d ((sops R).neg f)
  unfolding neg_l
  neg_mk d f = refl

  pub lau_ind2 : (P : Lau R → Lau R → Type 0) → ((x y : Lau R) → IsProp (P x y)) → ((d : ℕ) (f g : Ser R) → P (mk R d f) (mk R d g)) → (x y : Lau R) → P x y
  lau_ind2 P pp h =
      lau_ind R (λ x. (y : Lau R) → P x y) (λ x. Π_prop (pp x)) (λ d f. lau_ind R (P (mk R d f)) (pp (mk R d f)) (λ e g.
      rw (mk_ups e d f, mk_ups d e g, N.add_comm e d) (h (d + e) (ups R e f) (ups R d g))))

  pub lau_ind3 : (P : Lau R → Lau R → Lau R → Type 0) → ((x y z : Lau R) → IsProp (P x y z)) → ((d : ℕ) (f g h : Ser R) → P (mk R d f) (mk R d g) (mk R d h)) → (x y z : Lau R) → P x y z
  lau_ind3 P pp h =
      lau_ind2 (λ x y. (z : Lau R) → P x y z) (λ x y. Π_prop (pp x y)) (λ d f g. lau_ind R (P (mk R d f) (mk R d g)) (pp (mk R d f) (mk R d g)) (λ e v.
      rw (mk_ups e d f, mk_ups e d g, mk_ups d e v, N.add_comm e d) (h (d + e) (ups R e f) (ups R e g) (ups R d v))))

  -- ---- the laws
  open lops R use {add as ◌⊕◌, mul as ◌⊗◌, neg as ⊖◌, 𝟎, 𝟏}

  infixl 60 ◌⊕◌
  infixl 70 ◌⊗◌
  infix 80 ⊖◌
  add_assoc : (x y z : Lau R) → (x ⊕ y) ⊕ z ≡ x ⊕ (y ⊕ z)
  add_assoc = lau_ind3 (λ x y z. (x ⊕ y) ⊕ z ≡ x ⊕ (y ⊕ z)) (λ x y z. Quot-set _ _) (λ d f g h.
      simp add_mk (ap (mk R d) ((slaws R).add_assoc f g h)))

  add_comm : (x y : Lau R) → x ⊕ y ≡ y ⊕ x
  add_comm = lau_ind2 (λ x y. x ⊕ y ≡ y ⊕ x) (λ x y. Quot-set _ _) (λ d f g. simp add_mk (ap (mk R d) ((slaws R).add_comm f g)))

  add-zero : (x : Lau R) → x ⊕ 𝟎 ≡ x
  add-zero = lau_ind R (λ x. x ⊕ 𝟎 ≡ x) (λ x. Quot-set _ _) (λ d f.
      ap (λ z. mk R d f ⊕ z) (sym (mk_zero d)) ∙ add_mk d f (zero_s R) ∙ ap (mk R d) ((slaws R).add-zero f))

  add_neg : (x : Lau R) → x ⊕ ⊖ x ≡ 𝟎
  add_neg = lau_ind R (λ x. x ⊕ ⊖ x ≡ 𝟎) (λ x. Quot-set _ _) (λ d f.
      ap (λ z. mk R d f ⊕ z) (neg_mk d f) ∙ add_mk d f ((sops R).neg f) ∙ ap (mk R d) ((slaws R).add_neg f) ∙ mk_zero d)

  mul_assoc : (x y z : Lau R) → (x ⊗ y) ⊗ z ≡ x ⊗ (y ⊗ z)
  mul_assoc = lau_ind3 (λ x y z. (x ⊗ y) ⊗ z ≡ x ⊗ (y ⊗ z)) (λ x y z. Quot-set _ _) (λ d f g h.
      simp (mul_mk, N.add_assoc) (ap (mk R (d + (d + d))) ((slaws R).mul_assoc f g h)))

  mul_comm : (x y : Lau R) → x ⊗ y ≡ y ⊗ x
  mul_comm = lau_ind2 (λ x y. x ⊗ y ≡ y ⊗ x) (λ x y. Quot-set _ _) (λ d f g. simp mul_mk (ap (mk R (d + d)) ((slaws R).mul_comm f g)))

  mul-one : (x : Lau R) → x ⊗ 𝟏 ≡ x
  mul-one = lau_ind R (λ x. x ⊗ 𝟏 ≡ x) (λ x. Quot-set _ _) (λ d f.
      mul_mk d f 0 (const_s R R.ops.𝟏) ∙ ap₂ (mk R) (N.add-zero d) ((slaws R).mul-one f))

  mul-add : (x y z : Lau R) → x ⊗ (y ⊕ z) ≡ x ⊗ y ⊕ x ⊗ z
  mul-add = lau_ind3 (λ x y z. x ⊗ (y ⊕ z) ≡ x ⊗ y ⊕ x ⊗ z) (λ x y z. Quot-set _ _) (λ d f g h.
      simp (mul_mk, add_mk) (ap (mk R (d + d)) ((slaws R).mul-add f g h)))

  -- shut: a proof unfolds the operations, never the laws
  pub llaws : Laws (Lau R) (lops R)
  llaws = record {
    is_set = Quot-set;
    add_assoc = add_assoc;
    add_comm = add_comm;
    add-zero = add-zero;
    add_neg = add_neg;
    mul_assoc = mul_assoc;
    mul_comm = mul_comm;
    mul-one = mul-one;
    mul-add = mul-add;
  }

  abbrev pub laurent : CRing
  laurent = record { El = Lau R; ops = lops R; laws = llaws }

  -- ---- constants and the variable
  pub const_add : (a b : R.El) → const R (R.ops.add a b) ≡ const R a ⊕ const R b
  unfolding cons
  const_add a b = sym (add_mk 0 (const_s R a) (const_s R b) ∙ ap (mk R 0) (fun_ext at))
    where
      at : (n : ℕ) → (sops R).add (const_s R a) (const_s R b) n ≡ const_s R (R.ops.add a b) n
      at zero = refl
      at (suc n) = R.laws.add-zero R.ops.𝟎

  pub const_mul : (a b : R.El) → const R (R.ops.mul a b) ≡ const R a ⊗ const R b
  unfolding cons
  const_mul a b = sym (mul_mk 0 (const_s R a) 0 (const_s R b) ∙ ap (mk R 0) (fun_ext (λ n. const_mul_at R a (const_s R b) n ∙ at n)))
    where
      at : (n : ℕ) → R.ops.mul a (const_s R b n) ≡ const_s R (R.ops.mul a b) n
      at zero = refl
      at (suc n) = r.mul-zero R a

  pub const_zero : const R R.ops.𝟎 ≡ 𝟎
  const_zero = ap (mk R 0) (up_zero R)

  pub const_neg : (a : R.El) → const R (R.ops.neg a) ≡ ⊖ const R a
  const_neg a = r.neg_unique laurent (const R a) (const R (R.ops.neg a)) (sym (const_add a (R.ops.neg a)) ∙ ap (const R) (R.laws.add_neg a) ∙ const_zero)

  pub const_nat : (n : ℕ) → nat (lops R) n ≡ const R (nat R.ops n)
  unfolding nat
  const_nat zero = sym const_zero
  const_nat (suc n) = ap (λ x. 𝟏 ⊕ x) (const_nat n) ∙ sym (const_add R.ops.𝟏 (nat R.ops n))

  pub t_mk : (d : ℕ) (f : Ser R) → t R ⊗ mk R d f ≡ mk R (suc d) f
  t_mk d f = mul_mk 1 (const_s R R.ops.𝟏) d f ∙ ap₂ (mk R) (one-add d) (r.one-mul (series R) f)
