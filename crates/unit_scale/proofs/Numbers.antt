-- The number that `norm` makes is the norm.
--   three_cast   a b c, read in the field
--   norm_made    what `norm` hands out
use mathlib.Core.Path.{◌≡◌, sym, ap, ap₂, ◌∙◌, subst}
use mathlib.Core.Logic.{◌≢◌}
use mathlib.Core.List.{List, [], ◌∷◌}
use Prim.Native.Nat.{ℕ, ◌<◌, ◌≤◌}
use Prim.Native.Nat as N
use native.Mathlib.Omega.{arith}
use native.Mathlib.Nat.{mod-lt}
use lib.ListN.{length, get_or}
use Rattle.math_ring.proofs.Solve.{exprs, var, one, minus, ◌:+◌, ◌:*◌, solve}
use Rattle.math_triple.specs.Tri.{norm_t, tri_e}
use Rattle.math_rows.specs.Reading.{Reading}
use Rattle.math_rows.specs.Made.{reading}
use Rattle.math_rows.specs.Row.{Size}
use Rattle.math_rows.proofs.Rows.{cast_sub}
use Rattle.base_lists.specs.Pieces.{between}
use Rattle.base_lists.proofs.Pieces.{between_length}
use Rattle.unit_monic.proofs.InPlace.{mid_at}
use Rattle.num_mod.specs.Residue.{IsModulus}
use Rattle.num_power.specs.Powers.{Two}
use Rattle.poly_long.specs.Long.{Storable}
use Rattle.unit_scale.specs.AtZero.{NormAsks, NormIs}

module _ {p : ℕ} (ρ : Reading p) where
  open ρ use {𝓥, cast}
  open 𝓥 use {K}
  open K.ops use {add as ◌+ᵏ◌, mul as ◌*ᵏ◌, neg as -ᵏ◌, 𝟏 as 1ᵏ}

  infixl 60 ◌+ᵏ◌
  infixl 70 ◌*ᵏ◌
  infix 80 -ᵏ◌
  two_cast : (a b : ℕ) → cast (N.◌%◌ (N.◌*◌ a b) p) ≡ cast a *ᵏ cast b
  two_cast a b = ρ.cast_mod (N.◌*◌ a b) ∙ ρ.cast_mul a b

  three_cast : (a b c : ℕ) → cast (N.◌%◌ (N.◌*◌ (N.◌%◌ (N.◌*◌ a b) p) c) p) ≡ cast a *ᵏ cast b *ᵏ cast c
  three_cast a b c = two_cast (N.◌%◌ (N.◌*◌ a b) p) c ∙ ap (λ u. u *ᵏ cast c) (two_cast a b)

  sum_cast : (x y : ℕ) → cast (N.◌%◌ (N.◌+◌ x y) p) ≡ cast x +ᵏ cast y
  sum_cast x y = ρ.cast_mod (N.◌+◌ x y) ∙ ρ.cast_add x y

  minus_three : 3 ≤ p → cast (N.◌-◌ p 3) ≡ -ᵏ (1ᵏ +ᵏ 1ᵏ +ᵏ 1ᵏ)
  minus_three l = cast_sub ρ 3 l ∙ ap -ᵏ◌ (ρ.cast_add 2 1 ∙ ap₂ ◌+ᵏ◌ (ρ.cast_add 1 1 ∙ ap₂ ◌+ᵏ◌ ρ.cast_one ρ.cast_one) ρ.cast_one)

  norm_cast : (g h a b c : ℕ) {x y z m : ℕ} → 3 ≤ p →
      cast x ≡ cast h *ᵏ (cast b *ᵏ cast b *ᵏ cast b) → cast y ≡ cast g *ᵏ (cast c *ᵏ cast c *ᵏ cast c) → cast z ≡ -ᵏ (1ᵏ +ᵏ 1ᵏ +ᵏ 1ᵏ) *ᵏ (cast a *ᵏ cast b *ᵏ cast c) →
      cast m ≡ cast g *ᵏ cast h *ᵏ (cast x +ᵏ cast y +ᵏ cast z) →
      cast a *ᵏ cast a *ᵏ cast a +ᵏ cast m ≡ norm_t K.ops (cast g) (cast h) (record { a = cast a; b = cast b; c = cast c })
  norm_cast g h a b c l ex ey ez em =
      ap (λ t. cast a *ᵏ cast a *ᵏ cast a +ᵏ t) (em ∙ ap (λ t. cast g *ᵏ cast h *ᵏ t) (ap₂ ◌+ᵏ◌ (ap₂ ◌+ᵏ◌ ex ey) ez))
      ∙ solve K
      (var 2 :* var 2 :* var 2 :+ var 0 :* var 1 :* (var 1 :* (var 3 :* var 3 :* var 3) :+ var 0 :* (var 4 :* var 4 :* var 4) :+ minus (one :+ one :+ one) :* (var 2 :* var 3 :* var 4)))
      (norm_t exprs (var 0) (var 1) (tri_e (var 2) (var 3) (var 4))) tt (cast g ∷ cast h ∷ cast a ∷ cast b ∷ cast c ∷ [])

pub norm_made : (p g h a b c b³ c³ t x y z m a³ : ℕ) → NormAsks p g h a b c →
    b³ ≡ N.◌%◌ (N.◌*◌ (N.◌%◌ (N.◌*◌ b b) p) b) p → c³ ≡ N.◌%◌ (N.◌*◌ (N.◌%◌ (N.◌*◌ c c) p) c) p → t ≡ N.◌%◌ (N.◌*◌ (N.◌%◌ (N.◌*◌ a b) p) c) p →
    x ≡ N.◌%◌ (N.◌*◌ h b³) p → y ≡ N.◌%◌ (N.◌*◌ g c³) p → z ≡ N.◌%◌ (N.◌*◌ (N.◌-◌ p 3) t) p →
    m ≡ N.◌%◌ (N.◌*◌ (N.◌%◌ (N.◌*◌ g h) p) (N.◌%◌ (N.◌+◌ (N.◌+◌ x y) z) p)) p → a³ ≡ N.◌%◌ (N.◌*◌ (N.◌%◌ (N.◌*◌ a a) p) a) p →
    NormIs p g h a b c (N.◌%◌ (N.◌+◌ a³ m) p)
norm_made p g h a b c b³ c³ t x y z m a³ asks eb ec et ex ey ez em ea = record {
  below = mod-lt (N.◌+◌ a³ m) (let o : 3 ≤ p = asks.three in omega arith);
  law = λ pr.
      let ρ = reading p pr in
      let cast = ρ.cast in
      let o = ρ.𝓥.K.ops in
      sum_cast ρ a³ m
      ∙ ap (λ u. o.add u (cast m)) (ap cast ea ∙ three_cast ρ a a a)
      ∙ norm_cast ρ g h a b c asks.three
      (ap cast ex ∙ two_cast ρ h b³ ∙ ap (o.mul (cast h)) (ap cast eb ∙ three_cast ρ b b b))
      (ap cast ey ∙ two_cast ρ g c³ ∙ ap (o.mul (cast g)) (ap cast ec ∙ three_cast ρ c c c))
      (ap cast ez ∙ two_cast ρ (N.◌-◌ p 3) t ∙ ap₂ o.mul (minus_three ρ asks.three) (ap cast et ∙ three_cast ρ a b c))
      (ap cast em ∙ three_cast ρ g h (N.◌%◌ (N.◌+◌ (N.◌+◌ x y) z) p) ∙ ap (o.mul (o.mul (cast g) (cast h))) (sum_cast ρ (N.◌+◌ x y) z ∙ ap (λ u. o.add u (cast z)) (ρ.cast_add x y)));
}

-- ---- what `mul` asks
pub modulus_of : {p : ℕ} → Storable p → IsModulus p
modulus_of {p} m = record { big = m.prime.big; small = let o : p < 65536 = m.small in omega arith }

pub two : {p a b : ℕ} → Storable p → a < p → b < p → Two p a b
two m u v = record { modulus = modulus_of m; left = u; right = v }

-- a remainder is below p
pub below : {p r : ℕ} → Storable p → (x : ℕ) → r ≡ N.◌%◌ x p → r < p
below {p} m x e = subst (λ z. z < p) (sym e) (mod-lt x (let o : 1 < p = m.prime.big in omega arith))

-- the last number of a row is not 0
pub top_not_zero : (c : ℕ) (rows : List ℕ) {n v : ℕ} → c ≤ length rows → Size (between 0 c rows) n → 0 < n → v ≡ get_or rows (N.◌-◌ n 1) 0 → 0 < v
top_not_zero c rows {n} {v} l s u e =
    let w : length (between 0 c rows) ≡ N.◌-◌ c 0 = between_length 0 c rows (omega arith) l in
    let f : n ≤ length (between 0 c rows) = s.fits in
    let z : v ≢ 0 = (λ q. s.top u (mid_at c rows (N.◌-◌ n 1) (omega arith) ∙ sym e ∙ q)) in
    omega (arith, z)
