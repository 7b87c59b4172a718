-- Lists of numbers as polynomials: what the code holds, and what it stands for.
--   Row p l        32 numbers, each below p: the form in which code holds a polynomial, lowest coefficient first
--   shift_at y k i  the coefficient of t^k y at i
--   fall_at s d j   the list s read downwards from place d: entry j
--   comb s c k x y the turn of a reduction, s x − c t^k y
--   row ρ l        the polynomial Σ l_i t^i, for a list of any length
--   Floor ρ z l    l is the polynomial part of the series z
--   Reads ρ s d z  s, of 32 numbers, holds the first coefficients of z, a series of degree d, highest first: the polynomial parts
--                  of z, t z, t² z, .. are s read downwards, as far as s reaches
-- `tab` and `Size` are those of crate base_lists. The laws are in proofs/: Tab, Rows, Floors, Trims.
use Rattle.std.specs.Prelude.{◌≡◌, List, ℕ, zero, suc, ◌<◌, length, get_or}
use Prim.Native.Nat as N
unfoldable pub use Rattle.base_lists.specs.Pieces.{tab}
pub use Rattle.base_lists.specs.Coefficients.{Size}
use Rattle.math_valued.specs.Degree.{Lt}
use Rattle.math_rows.specs.Reading.{Reading}

pub record Row (p : ℕ) (l : List ℕ) : Type 0 where
  pub size : length l ≡ 32
  pub each : (i : ℕ) → get_or l i 0 < p

unfoldable pub shift_at : List ℕ → ℕ → ℕ → ℕ
shift_at y zero i = get_or y i 0
shift_at y (suc k) zero = 0
shift_at y (suc k) (suc i) = shift_at y k i

unfoldable pub fall_at : List ℕ → ℕ → ℕ → ℕ
fall_at s d zero = get_or s d 0
fall_at s zero (suc j) = 0
fall_at s (suc d) (suc j) = fall_at s d j

module _ {p : ℕ} (ρ : Reading p) where
  open ρ use {𝓥, cast}
  open 𝓥 use {K, L, const, t}
  open L.ops use {add as ◌+◌, mul as ◌*◌, neg as -◌, 𝟎, 𝟏}

  infixl 60 ◌+◌
  infixl 70 ◌*◌
  infix 80 -◌
  -- t^k
  unfoldable pub tpow : ℕ → L.El
  tpow zero = 𝟏
  tpow (suc k) = t * tpow k

  abbrev pub comb : K.El → K.El → ℕ → L.El → L.El → L.El
  comb s c k x y = const s * x + - (const c * (tpow k * y))

  -- f₀ + f₁ t + .. , n terms
  unfoldable pub psum : ℕ → (ℕ → K.El) → L.El
  psum zero f = 𝟎
  psum (suc n) f = psum n f + const (f n) * tpow n

  abbrev pub coefs : List ℕ → ℕ → K.El
  coefs l = λ i. cast (get_or l i 0)

  unfoldable pub row : List ℕ → L.El
  row l = psum (length l) (coefs l)

  abbrev pub Floor : L.El → List ℕ → Type 0
  Floor z l = Lt 𝓥 (z + - row l) 0

  abbrev pub Reads : List ℕ → ℕ → L.El → Type 0
  Reads s d z = (k : ℕ) → N.◌+◌ d k < 32 → Floor (tpow k * z) (tab 32 (fall_at s (N.◌+◌ d k)))
