-- The reading at a prime, with its derivative: Laurent series over the integers mod p.
--   reading p      shut: proofs use the fields of `Reading`, nothing computes in it
--   derivation p   d/dt on its series
--   cube_roots p   cube roots of its series
use Rattle.std.specs.Prelude.{◌≡◌, ◌≢◌, ℕ, ◌%◌, [], ◌∷◌}
use Rattle.std.proofs.Math.Path.{refl}
use Rattle.std.proofs.Common.{sym, ap, ◌∙◌, mod-eq_of_lt, arith}
use Rattle.std.proofs.Math.Nat.{mod-mod}
use Rattle.math_ring.specs.Ring.{nat}
use Rattle.math_ring.proofs.Solve.{var, one, ◌:+◌, ◌:*◌, hyp, solve_by}
use Rattle.math_fp.specs.Fp.{F, Prime, cls}
use Rattle.math_fp.proofs.Ring.{F_path, cls_add, cls_mul, cls_val, cls_p}
use Rattle.math_fp.proofs.Field.{Fld, ppos, field, inverse, cancel_zero}
use Rattle.math_fp.proofs.Fermat.{nat_cls, cls_nonzero, frob, fermat}
use Rattle.math_laurent.specs.Laurent.{lops, const}
use Rattle.math_laurent.specs.Derivative.{D}
use Rattle.math_laurent.proofs.Laurent.{laurent, const_add, const_mul, const_zero, const_nat}
use Rattle.math_laurent.proofs.Degree.{lead_eq}
use Rattle.math_laurent.proofs.Derivative.{D_add, D_mul, D_const, D_t, D_poly, D_root}
use Rattle.math_laurent.proofs.CubeRoot.{lead_root}
use Rattle.math_laurent.proofs.Instance.{valued}
use Rattle.math_rows.specs.Reading.{Reading}
use Rattle.math_rows.specs.Derivation.{Derivation}
use Rattle.math_rows.specs.Roots.{CubeRoots}

module _ (p : ℕ) (pr : Prime p) where
  one_not : (Fld p pr).ops.𝟏 ≢ (Fld p pr).ops.𝟎
  one_not = cls_nonzero p pr 1 (λ e. let z : 1 % p ≡ 1 = mod-eq_of_lt pr.big in omega arith)

  pub reading : Reading p
  reading = record {
    𝓥 = valued (Fld p pr) (field p pr) one_not;
    pos = ppos p pr;
    cast = cls p (ppos p pr);
    cast_zero = refl;
    cast_one = refl;
    cast_add = λ a b. sym (cls_add p (ppos p pr) a b);
    cast_mul = λ a b. sym (cls_mul p (ppos p pr) a b);
    cast_mod = λ a. F_path (mod-mod a p);
    cast_small = λ a l e. sym (mod-eq_of_lt l) ∙ ap (λ (x : F p). x.0) e ∙ mod-eq_of_lt (ppos p pr);
    cast_onto = λ x. (x.0, x.1, cls_val p (ppos p pr) x);
    const_add = const_add (Fld p pr);
    const_mul = const_mul (Fld p pr);
    const_one = refl;
  }

  -- p is 0 among the series, and a number that p does not divide is no zero divisor
  series_char : nat (lops (Fld p pr)) p ≡ (lops (Fld p pr)).𝟎
  series_char = const_nat (Fld p pr) p ∙ ap (const (Fld p pr)) (nat_cls p pr p ∙ cls_p p (ppos p pr)) ∙ const_zero (Fld p pr)

  number_cancel : (n : ℕ) (a : F p) → n % p ≢ 0 → (Fld p pr).ops.mul (nat (Fld p pr).ops n) a ≡ (Fld p pr).ops.𝟎 → a ≡ (Fld p pr).ops.𝟎
  number_cancel n a h e = cancel_zero p pr (nat (Fld p pr).ops n) a (λ z. cls_nonzero p pr n h (sym (nat_cls p pr n) ∙ z)) e

  pub derivation : Derivation reading
  unfolding reading
  derivation = record {
    D = D (Fld p pr);
    D_add = D_add (Fld p pr);
    D_mul = D_mul (Fld p pr);
    D_const = D_const (Fld p pr);
    D_t = D_t (Fld p pr);
    D_poly = D_poly (Fld p pr);
    D_zero = D_root (Fld p pr) (field p pr) p (ppos p pr) (frob p pr (laurent (Fld p pr)) series_char) (fermat p pr) number_cancel;
  }

  open (Fld p pr).ops use {add as ◌⊕◌, mul as ◌⊗◌, 𝟎, 𝟏}

  infixl 60 ◌⊕◌
  infixl 70 ◌⊗◌
  -- the inverse of 3 c²
  thrice_inverse : (c : F p) → c ≢ 𝟎 → 𝟏 ⊕ 𝟏 ⊕ 𝟏 ≢ 𝟎 → (w : F p) × ((c ⊗ c ⊕ c ⊗ c ⊕ c ⊗ c) ⊗ w ≡ 𝟏)
  thrice_inverse c h h3 =
      let (u, e) = inverse p pr c h in
      let (w, f) = inverse p pr (𝟏 ⊕ 𝟏 ⊕ 𝟏) h3 in
      let C = var 0 in let U = var 1 in let W = var 2 in
      -- 3 c² · u² w − 1 = (3 w − 1) + 3 w (c u + 1)(c u − 1)
      (
        u ⊗ u ⊗ w,
        solve_by (Fld p pr) ((C :* C :+ C :* C :+ C :* C) :* (U :* U :* W)) one
            (hyp one ((one :+ one :+ one) :* W) one ∷ hyp ((one :+ one :+ one) :* W :* (C :* U :+ one)) (C :* U) one ∷ []) tt (c ∷ u ∷ w ∷ []) (f, (e, tt)),
      )

  pub cube_roots : CubeRoots reading
  unfolding reading
  cube_roots = record {
    cube_root = λ x d c h h3 l.
        let (w, e) = thrice_inverse c h h3 in
        lead_root (Fld p pr) d 0 c w e (lead_eq (Fld p pr) l refl ((Fld p pr).laws.mul_assoc c c c));
  }
