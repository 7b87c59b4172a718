-- The product of two elements in rows, by its three coordinates.
--   first_asks, second_asks, third_asks   what the coordinates ask
--   product_first, product_second         the answer where the first or the second coordinate is wrong
--   product_third                         and where the third decides
use mathlib.Core.Path.{◌≡◌, sym, ap, ap₂, ◌∙◌}
use mathlib.Core.Bool.{Bool, true, false}
use mathlib.Core.List.{List, [], ◌∷◌}
use Prim.Native.Nat.{ℕ, ◌+◌, ◌*◌, ◌<◌, ◌≤◌}
use native.Mathlib.Omega.{arith}
use lib.ListN.{length}
use Rattle.base_answers.proofs.Tests.{answer_no, carried}
use Rattle.base_lists.specs.Pieces.{cut, between}
use Rattle.base_lists.proofs.Pieces.{length_cut}
use Rattle.math_ring.proofs.Solve.{var, one, ◌:+◌, ◌:*◌, solve}
use Rattle.math_triple.specs.Tri.{Tri, mul_t}
use Rattle.math_triple.specs.Order.{triops}
use Rattle.math_fp.specs.Fp.{Prime}
use Rattle.math_rows.specs.Reading.{Reading}
use Rattle.math_rows.specs.Made.{reading}
use Rattle.math_rows.specs.Row.{row}
use Rattle.math_rows.proofs.Rows.{const_zero}
use Rattle.unit_inverse.specs.Inverse.{element}
use Rattle.unit_inverse.proofs.Inverting.{row_one}
use Rattle.unit_check.specs.Code.{CoordinateAsks, coordinate_of, CoordinateGives, ProductAsks, ProductGives}
use Rattle.unit_check.proofs.Lists.{row_at}

tri_path : {A : Type 0} {x y : Tri A} → x.a ≡ y.a → x.b ≡ y.b → x.c ≡ y.c → x ≡ y
tri_path f g h = λ i. record { a = f i; b = g i; c = h i }

-- ---- over any six lists
module _ {p : ℕ} (ρ : Reading p) (g h gh e0 e1 e2 f0 f1 f2 : List ℕ) (gh_is : row ρ gh ≡ ρ.𝓥.L.ops.mul (row ρ g) (row ρ h)) where
  open ρ.𝓥.L.ops use {add as ◌⊕◌, mul as ◌⊗◌, 𝟎, 𝟏}

  infixl 60 ◌⊕◌
  infixl 70 ◌⊗◌
  abbrev rows_e : Tri ρ.𝓥.L.El
  rows_e = record { a = row ρ e0; b = row ρ e1; c = row ρ e2 }

  abbrev rows_f : Tri ρ.𝓥.L.El
  rows_f = record { a = row ρ f0; b = row ρ f1; c = row ρ f2 }

  abbrev product : Tri ρ.𝓥.L.El
  product = mul_t ρ.𝓥.L.ops (row ρ g) (row ρ h) rows_e rows_f

  abbrev unity : Tri ρ.𝓥.L.El
  unity = (triops ρ.𝓥.L.ops (row ρ g) (row ρ h)).𝟏

  const_one : ρ.𝓥.const (ρ.cast 1) ≡ 𝟏
  const_one = ap ρ.𝓥.const ρ.cast_one ∙ ρ.const_one

  const_none : ρ.𝓥.const (ρ.cast 0) ≡ 𝟎
  const_none = ap ρ.𝓥.const ρ.cast_zero ∙ const_zero ρ

  one_is : row ρ (1 ∷ []) ≡ 𝟏
  one_is = row_one ρ 1 ∙ const_one

  abbrev env : List ρ.𝓥.L.El
  env = row ρ g ∷ row ρ h ∷ row ρ e0 ∷ row ρ e1 ∷ row ρ e2 ∷ row ρ f0 ∷ row ρ f1 ∷ row ρ f2 ∷ []

  first_is : coordinate_of ρ e1 f2 e2 f1 gh e0 f0 (1 ∷ []) ≡ product.a
  first_is =
      ap₂ (λ s t. s ⊗ (row ρ e1 ⊗ row ρ f2 ⊕ row ρ e2 ⊗ row ρ f1) ⊕ t ⊗ (row ρ e0 ⊗ row ρ f0)) gh_is one_is
      ∙ solve ρ.𝓥.L (var 0 :* var 1 :* (var 3 :* var 7 :+ var 4 :* var 6) :+ one :* (var 2 :* var 5)) (var 2 :* var 5 :+ (var 3 :* var 7 :+ var 4 :* var 6) :* (var 0 :* var 1)) tt env

  second_is : coordinate_of ρ e0 f1 e1 f0 (1 ∷ []) e2 f2 g ≡ product.b
  second_is =
      ap (λ s. s ⊗ (row ρ e0 ⊗ row ρ f1 ⊕ row ρ e1 ⊗ row ρ f0) ⊕ row ρ g ⊗ (row ρ e2 ⊗ row ρ f2)) one_is
      ∙ solve ρ.𝓥.L (one :* (var 2 :* var 6 :+ var 3 :* var 5) :+ var 0 :* (var 4 :* var 7)) (var 2 :* var 6 :+ var 3 :* var 5 :+ var 4 :* var 7 :* var 0) tt env

  third_is : coordinate_of ρ e0 f2 e2 f0 (1 ∷ []) e1 f1 h ≡ product.c
  third_is =
      ap (λ s. s ⊗ (row ρ e0 ⊗ row ρ f2 ⊕ row ρ e2 ⊗ row ρ f0) ⊕ row ρ h ⊗ (row ρ e1 ⊗ row ρ f1)) one_is
      ∙ solve ρ.𝓥.L (one :* (var 2 :* var 7 :+ var 4 :* var 5) :+ var 1 :* (var 3 :* var 6)) (var 2 :* var 7 :+ var 4 :* var 5 :+ var 3 :* var 6 :* var 1) tt env

  first_of : product ≡ unity → coordinate_of ρ e1 f2 e2 f1 gh e0 f0 (1 ∷ []) ≡ ρ.𝓥.const (ρ.cast 1)
  first_of e = first_is ∙ ap (λ v. v.a) e ∙ sym const_one

  second_of : product ≡ unity → coordinate_of ρ e0 f1 e1 f0 (1 ∷ []) e2 f2 g ≡ ρ.𝓥.const (ρ.cast 0)
  second_of e = second_is ∙ ap (λ v. v.b) e ∙ sym const_none

  third_of : product ≡ unity → coordinate_of ρ e0 f2 e2 f0 (1 ∷ []) e1 f1 h ≡ ρ.𝓥.const (ρ.cast 0)
  third_of e = third_is ∙ ap (λ v. v.c) e ∙ sym const_none

  three : coordinate_of ρ e1 f2 e2 f1 gh e0 f0 (1 ∷ []) ≡ ρ.𝓥.const (ρ.cast 1) → coordinate_of ρ e0 f1 e1 f0 (1 ∷ []) e2 f2 g ≡ ρ.𝓥.const (ρ.cast 0)
      → coordinate_of ρ e0 f2 e2 f0 (1 ∷ []) e1 f1 h ≡ ρ.𝓥.const (ρ.cast 0) → product ≡ unity
  three x y z = tri_path (sym first_is ∙ x ∙ const_one) (sym second_is ∙ y ∙ const_none) (sym third_is ∙ z ∙ const_none)

-- ---- over the parts of the slice
module _ {p c : ℕ} {g h gh rows : List ℕ} (t : ProductAsks p c g h gh rows) where
  abbrev e0 : List ℕ
  e0 = between 0 c rows

  abbrev e1 : List ℕ
  e1 = between c (c + c) rows

  abbrev e2 : List ℕ
  e2 = between (c + c) (c + c + c) rows

  abbrev f0 : List ℕ
  f0 = between (c + c + c) (c + c + c + c) rows

  abbrev f1 : List ℕ
  f1 = between (c + c + c + c) (c + c + c + c + c) rows

  abbrev f2 : List ℕ
  f2 = between (c + c + c + c + c) (c + c + c + c + c + c) rows

  part : (a b at : ℕ) → b ≡ a + c → b ≤ 6 * c → a ≡ at → between a b rows ≡ cut at c rows
  part a b at = row_at c a b at rows t.whole

  long : (a b : ℕ) → b ≡ a + c → b ≤ 6 * c → length (between a b rows) ≡ c
  long a b e u = ap length (part a b a e u (omega arith)) ∙ length_cut a c rows

  asks : {x y z w u m n v : List ℕ} {k : ℕ} → length x ≡ c → length y ≡ c → length z ≡ c → length w ≡ c → length u ≤ 32 → length m ≡ c → length n ≡ c → length v ≤ 32 → k ≤ 1
      → CoordinateAsks p c x y z w u m n v k
  asks sx sy sz sw su sm sn sv sk = record {
    modulus = t.modulus;
    most = t.most;
    x_size = sx;
    y_size = sy;
    z_size = sz;
    size_w = sw;
    size_m = sm;
    size_n = sn;
    u_most = su;
    v_most = sv;
    remainder = (let o : 1 < p = t.modulus.prime.big in omega arith);
  }

  l0 : length e0 ≡ c
  l0 = long 0 c (omega arith) (omega arith)

  l1 : length e1 ≡ c
  l1 = long c (c + c) (omega arith) (omega arith)

  l2 : length e2 ≡ c
  l2 = long (c + c) (c + c + c) (omega arith) (omega arith)

  l3 : length f0 ≡ c
  l3 = long (c + c + c) (c + c + c + c) (omega arith) (omega arith)

  l4 : length f1 ≡ c
  l4 = long (c + c + c + c) (c + c + c + c + c) (omega arith) (omega arith)

  l5 : length f2 ≡ c
  l5 = long (c + c + c + c + c) (c + c + c + c + c + c) (omega arith) (omega arith)

  pub first_asks : {u : List ℕ} → length u ≤ 32 → CoordinateAsks p c e1 f2 e2 f1 u e0 f0 (1 ∷ []) 1
  first_asks s = asks l1 l5 l2 l4 s l0 l3 (omega arith) (omega arith)

  pub second_asks : {v : List ℕ} → length v ≤ 32 → CoordinateAsks p c e0 f1 e1 f0 (1 ∷ []) e2 f2 v 0
  second_asks s = asks l0 l4 l1 l3 (omega arith) l2 l5 s (omega arith)

  pub third_asks : {v : List ℕ} → length v ≤ 32 → CoordinateAsks p c e0 f2 e2 f0 (1 ∷ []) e1 f1 v 0
  third_asks s = asks l0 l5 l2 l3 (omega arith) l1 l4 s (omega arith)

  -- the two elements
  module _ (pr : Prime p) where
    abbrev ρ : Reading p
    ρ = reading p pr

    E_is : rows_e ρ g h gh e0 e1 e2 f0 f1 f2 (t.gh_is pr) ≡ element ρ 0 c rows
    E_is = tri_path
        (ap (row ρ) (part 0 c 0 (omega arith) (omega arith) (omega arith)))
        (ap (row ρ) (part c (c + c) (0 + c) (omega arith) (omega arith) (omega arith)))
        (ap (row ρ) (part (c + c) (c + c + c) (0 + c + c) (omega arith) (omega arith) (omega arith)))

    F_is : rows_f ρ g h gh e0 e1 e2 f0 f1 f2 (t.gh_is pr) ≡ element ρ (c + c + c) c rows
    F_is = tri_path
        (ap (row ρ) (part (c + c + c) (c + c + c + c) (c + c + c) (omega arith) (omega arith) (omega arith)))
        (ap (row ρ) (part (c + c + c + c) (c + c + c + c + c) (c + c + c + c) (omega arith) (omega arith) (omega arith)))
        (ap (row ρ) (part (c + c + c + c + c) (c + c + c + c + c + c) (c + c + c + c + c) (omega arith) (omega arith) (omega arith)))

    same : product ρ g h gh e0 e1 e2 f0 f1 f2 (t.gh_is pr) ≡ mul_t ρ.𝓥.L.ops (row ρ g) (row ρ h) (element ρ 0 c rows) (element ρ (c + c + c) c rows)
    same = ap₂ (mul_t ρ.𝓥.L.ops (row ρ g) (row ρ h)) E_is F_is

  pub product_first : {r : Bool} → CoordinateGives p e1 f2 e2 f1 gh e0 f0 (1 ∷ []) 1 r → r ≡ false → ProductGives p c g h rows false
  product_first x e pr = answer_no (λ w. (x pr).no! e (first_of (reading p pr) g h gh e0 e1 e2 f0 f1 f2 (t.gh_is pr) (same pr ∙ w)))

  pub product_second : {r : Bool} → CoordinateGives p e0 f1 e1 f0 (1 ∷ []) e2 f2 g 0 r → r ≡ false → ProductGives p c g h rows false
  product_second x e pr = answer_no (λ w. (x pr).no! e (second_of (reading p pr) g h gh e0 e1 e2 f0 f1 f2 (t.gh_is pr) (same pr ∙ w)))

  pub product_third : {r s q : Bool} → CoordinateGives p e1 f2 e2 f1 gh e0 f0 (1 ∷ []) 1 r → r ≡ true → CoordinateGives p e0 f1 e1 f0 (1 ∷ []) e2 f2 g 0 s → s ≡ true
      → CoordinateGives p e0 f2 e2 f0 (1 ∷ []) e1 f1 h 0 q → ProductGives p c g h rows q
  product_third x e y f z pr =
      carried
      (λ w. sym (same pr) ∙ three (reading p pr) g h gh e0 e1 e2 f0 f1 f2 (t.gh_is pr) ((x pr).yes! e) ((y pr).yes! f) w)
      (λ w. third_of (reading p pr) g h gh e0 e1 e2 f0 f1 f2 (t.gh_is pr) (same pr ∙ w))
      (z pr)
