-- Lengths are settled.
--   not_ordered, not_units   no shape, where lengths or leading coefficients are not in order
--   shape_from               the shape, where the lengths are in order
use mathlib.Core.Path.{◌≡◌, ap, ◌∙◌}
use mathlib.Core.Logic.{inl, inr}
use mathlib.Core.Bool.{Bool}
use mathlib.Core.List.{List}
use Prim.Native.Nat.{ℕ, ◌-◌}
use native.Mathlib.Omega.{arith}
use lib.ListN.{get_or}
use Rattle.math_rows.specs.Row.{Size}
use Rattle.poly_rows.proofs.Leaf.{size_unique}
use Rattle.base_answers.specs.Decides.{Decides}
use Rattle.basis_bounds.specs.Bounds.{Ordered}
use Rattle.basis_shape.specs.Lengths.{Units, Shape}

-- lengths are settled
pub not_ordered : {u mx my nx ny zm zn : List ℕ} {lu lx ly ln lm a b : ℕ} → Size u lu → Size mx lx → Size ny ly → Size nx ln → Size my lm → Size zm a → Size zn b
    → (Ordered lu lx ly ln lm a b → ⊥) → Shape u mx my nx ny zm zn → ⊥
not_ordered {lu = lu} {lx} {ly} {ln} {lm} {a} {b} su sx sy sn sm sa sb out s =
    let e₁ : s.lu ≡ lu = size_unique s.su su in
    let e₂ : s.lx ≡ lx = size_unique s.sx sx in
    let e₃ : s.ly ≡ ly = size_unique s.sy sy in
    let e₄ : s.ln ≡ ln = size_unique s.sn sn in
    let e₅ : s.lm ≡ lm = size_unique s.sm sm in
    let e₆ : s.a ≡ a = size_unique s.sa sa in
    let e₇ : s.b ≡ b = size_unique s.sb sb in
    let o = s.ordered in
    out (record {
      Y_M = omega (arith, o.Y_M);
      Z_M = omega (arith, o.Z_M);
      Z_N = omega (arith, o.Z_N);
      Y_N = omega (arith, o.Y_N);
      X_M = omega (arith, o.X_M);
      X_N = omega (arith, o.X_N);
      N_large = elim o.N_large [ inl h ↦ inl (omega (arith, h)) | inr h ↦ inr (omega (arith, h)) ];
    })

pub not_units : {u mx my nx ny zm zn : List ℕ} {lu lx ly : ℕ} → Size u lu → Size mx lx → Size ny ly
    → (Units (get_or u (lu - 1) 0) (get_or mx (lx - 1) 0) (get_or ny (ly - 1) 0) → ⊥) → Shape u mx my nx ny zm zn → ⊥
not_units {u} {mx} {my} {nx} {ny} su sx sy out s = out (record {
  U_one = ap (λ n. get_or u (n - 1) 0) (size_unique su s.su) ∙ s.units.U_one;
  X_two = ap (λ n. get_or mx (n - 1) 0) (size_unique sx s.sx) ∙ s.units.X_two;
  Y_one = ap (λ n. get_or ny (n - 1) 0) (size_unique sy s.sy) ∙ s.units.Y_one;
})

-- the shape, where the lengths are in order
pub shape_from : {o : Bool} {u mx my nx ny zm zn : List ℕ} {lu lx ly ln lm a b : ℕ} → Size u lu → Size mx lx → Size ny ly → Size nx ln → Size my lm → Size zm a → Size zn b
    → Ordered lu lx ly ln lm a b → Decides o (Units (get_or u (lu - 1) 0) (get_or mx (lx - 1) 0) (get_or ny (ly - 1) 0)) → Decides o (Shape u mx my nx ny zm zn)
shape_from su sx sy sn sm sa sb w t = record {
  yes! = λ e. record { lu = _; lx = _; ly = _; ln = _; lm = _; a = _; b = _; su = su; sx = sx; sy = sy; sn = sn; sm = sm; sa = sa; sb = sb; ordered = w; units = t.yes! e };
  no! = λ e s. not_units su sx sy (t.no! e) s;
}
