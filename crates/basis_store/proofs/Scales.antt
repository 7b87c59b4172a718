-- One inversion for three: with i = 1/(abc), j = i c is 1/(ab), so j b = 1/a, 2 j a = 2/b and i ab = 1/c.
use mathlib.Core.Path.{◌≡◌, sym, ap, ap₂, ◌∙◌}
use mathlib.Core.List.{[], ◌∷◌}
use Prim.Native.Nat.{ℕ, ◌<◌, ◌%◌}
use Prim.Native.Nat as N
use native.Mathlib.Nat.{mod-lt}
use native.Mathlib.Omega.{arith}
use Rattle.math_ring.proofs.Solve.{var, one, ◌:+◌, ◌:*◌, solve}
use Rattle.math_fp.specs.Fp.{Prime}
use Rattle.num_mod.specs.Residue.{IsModulus}
use Rattle.num_power.specs.Powers.{Nonzero, Inverse}
use Rattle.math_rows.specs.Made.{reading}
use Rattle.math_rows.proofs.Numbers.{cast_product, product_some}
use Rattle.basis_parts.proofs.Leaves.{less_square}
use Rattle.basis_store.specs.Scales.{FactorsOfAsks, Scaling}
use Rattle.basis_store.proofs.Two.{cast_two}

module _ {p a b c : ℕ} (g : FactorsOfAsks p a b c) where
  pos : 0 < p
  pos = let k : 1 < p = g.modulus.big in omega arith

  pub scales_in : Nonzero p (N.◌*◌ (N.◌*◌ a b % p) c % p)
  scales_in = record {
    modulus = g.modulus;
    prime = g.prime;
    pos = let ρ = reading p g.prime in product_some ρ (N.◌*◌ a b % p) c (product_some ρ a b g.a_pos g.a_low g.b_pos g.b_low) (mod-lt (N.◌*◌ a b) pos) g.c_pos g.c_low;
    below = mod-lt (N.◌*◌ (N.◌*◌ a b % p) c) pos;
  }

  module _ (i : ℕ) (h : Inverse p (N.◌*◌ (N.◌*◌ a b % p) c % p) i) where
    abbrev j : ℕ
    j = N.◌*◌ i c % p

    all : (pr : Prime p) → let ρ = reading p pr in let k = ρ.𝓥.K.ops in k.mul (k.mul (k.mul (ρ.cast a) (ρ.cast b)) (ρ.cast c)) (ρ.cast i) ≡ k.𝟏
    all pr =
        let ρ = reading p pr in
        let k = ρ.𝓥.K.ops in
        ap (λ z. k.mul (k.mul z (ρ.cast c)) (ρ.cast i)) (sym (cast_product ρ a b)) ∙ ap (λ z. k.mul z (ρ.cast i)) (sym (cast_product ρ (N.◌*◌ a b % p) c))
        ∙ sym (cast_product ρ (N.◌*◌ (N.◌*◌ a b % p) c % p) i) ∙ ap ρ.cast h.law ∙ ρ.cast_one

    at_j : (pr : Prime p) → let ρ = reading p pr in ρ.cast j ≡ ρ.𝓥.K.ops.mul (ρ.cast i) (ρ.cast c)
    at_j pr = cast_product (reading p pr) i c

    pub scaling : Scaling p a b c (record { u = N.◌*◌ j b % p; m = N.◌*◌ 2 (N.◌*◌ j a % p) % p; n = N.◌*◌ i (N.◌*◌ a b % p) % p })
    scaling = record {
      u_low = mod-lt (N.◌*◌ j b) pos;
      m_low = mod-lt (N.◌*◌ 2 (N.◌*◌ j a % p)) pos;
      n_low = mod-lt (N.◌*◌ i (N.◌*◌ a b % p)) pos;
      u_law = λ pr.
          let ρ = reading p pr in
          let k = ρ.𝓥.K.ops in
          ap (λ z. k.mul z (ρ.cast a)) (cast_product ρ j b ∙ ap (λ z. k.mul z (ρ.cast b)) (at_j pr)) ∙ solve ρ.𝓥.K (var 3 :* var 2 :* var 1 :* var 0) (var 0 :* var 1 :* var 2 :* var 3) tt (ρ.cast a ∷ ρ.cast b ∷ ρ.cast c ∷ ρ.cast i ∷ []) ∙ all pr;
      m_law = λ pr.
          let ρ = reading p pr in
          let k = ρ.𝓥.K.ops in
          ap (λ z. k.mul z (ρ.cast b)) (cast_product ρ 2 (N.◌*◌ j a % p) ∙ ap₂ k.mul (cast_two ρ) (cast_product ρ j a ∙ ap (λ z. k.mul z (ρ.cast a)) (at_j pr)))
          ∙ solve ρ.𝓥.K ((one :+ one) :* (var 3 :* var 2 :* var 0) :* var 1) ((one :+ one) :* (var 0 :* var 1 :* var 2 :* var 3)) tt (ρ.cast a ∷ ρ.cast b ∷ ρ.cast c ∷ ρ.cast i ∷ [])
          ∙ ap (λ z. k.mul (k.add k.𝟏 k.𝟏) z) (all pr) ∙ solve ρ.𝓥.K ((one :+ one) :* one) (one :+ one) tt [];
      n_law = λ pr.
          let ρ = reading p pr in
          let k = ρ.𝓥.K.ops in
          ap (λ z. k.mul z (ρ.cast c)) (cast_product ρ i (N.◌*◌ a b % p) ∙ ap (λ z. k.mul (ρ.cast i) z) (cast_product ρ a b))
          ∙ solve ρ.𝓥.K (var 3 :* (var 0 :* var 1) :* var 2) (var 0 :* var 1 :* var 2 :* var 3) tt (ρ.cast a ∷ ρ.cast b ∷ ρ.cast c ∷ ρ.cast i ∷ []) ∙ all pr;
    }

-- a product of two numbers below p fits 64 bits
pub product_fits : {p : ℕ} (x y : ℕ) → IsModulus p → x < p → y < p → N.◌*◌ x y < 4611686018427387904
product_fits {p} x y h hx hy = let a : p < 2147483648 = h.small in omega (arith, less_square 2147483648 x y (omega arith) (omega arith))
