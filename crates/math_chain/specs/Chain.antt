-- The chain of steps (document 01: "Step", "Walk").
--   Degree B n         the degree of m is n
--   Chain B₀ s d B     s steps from B₀ end in B, and the degrees of the m passed add up to d
--   tops bottoms       the products of the M and of the U passed
--   Product c E        E is the product of the m passed
--   Closing B₀ l d B   the first count of steps after which U = 1
--   Open B₀ l          no count from 1 to l closes
-- Theorems: the chain is determined by its start and its number of steps (proofs/Walk); what the products fill, and how large bases are
-- (proofs/Passed); closing is being back at the order (proofs/Closing).
use Rattle.std.specs.Prelude.{◌≡◌, ◌≢◌, ℕ, suc, ◌+◌, ◌≤◌, ◌<◌}
use Rattle.math_valued.specs.Degree.{Has}
use Rattle.math_valued.specs.Polynomial.{polys}
use Rattle.math_ideals.specs.Setting.{Setting, P}
use Rattle.math_ideals.specs.Element.{O, sc, ev}
use Rattle.math_ideals.specs.Ideal.{Basis}
use Rattle.math_ideals.specs.Basis.{Good}
use Rattle.math_ideals.specs.Next.{Next}

module _ (S : Setting) where
  open S use {𝓥}
  open (polys 𝓥).ops use {mul as ◌⊠◌, 𝟏 as 1ₚ}
  open (O S).ops use {mul as ◌⊗◌, 𝟏 as 1ₒ}

  infixl 70 ◌⊗◌ ◌⊠◌
  -- "The degree of an element is that of its series": deg m = deg M − deg U
  pub record Degree (B : Basis S) (n : ℕ) : Type 0 where
    pub x : ℕ
    pub u : ℕ
    pub M_deg : Has 𝓥 (ev S B.M) x
    pub U_deg : Has 𝓥 B.U.0 u
    pub eq : x ≡ u + n

  -- "From a reduced ideal with basis 1, m, n to that ideal divided by m, in its scaled reduced basis; also the degree of m"
  pub data Chain (B₀ : Basis S) : ℕ → ℕ → Basis S → Type 0 where
    here : Chain B₀ 0 0 B₀
    then : {s d : ℕ} {B : Basis S} (n : ℕ) (B' : Basis S) → Chain B₀ s d B → Degree B n → Next S B B' → Good S B' → Chain B₀ (suc s) (d + n) B'

  unfoldable pub tops : {B₀ : Basis S} {s d : ℕ} {B : Basis S} → Chain B₀ s d B → (O S).El
  tops here = 1ₒ
  tops (then {B = B} n B' c deg next good) = tops c ⊗ B.M

  unfoldable pub bottoms : {B₀ : Basis S} {s d : ℕ} {B : Basis S} → Chain B₀ s d B → P S
  bottoms here = 1ₚ
  bottoms (then {B = B} n B' c deg next good) = bottoms c ⊠ B.U

  -- E = Π M / Π U
  abbrev pub Product : {B₀ : Basis S} {s d : ℕ} {B : Basis S} → Chain B₀ s d B → (O S).El → Type 0
  Product c E = sc S (bottoms c) ⊗ E ≡ tops c

  abbrev pub Open : Basis S → ℕ → Type 0
  Open B₀ l = (m d : ℕ) (B : Basis S) → 1 ≤ m → m ≤ l → Chain B₀ m d B → B.U ≢ 1ₚ

  -- "until U = 1 after at least one step"
  pub record Closing (B₀ : Basis S) (l d : ℕ) (B : Basis S) : Type 0 where
    pub chain : Chain B₀ l d B
    pub some : 1 ≤ l
    pub closed : B.U ≡ 1ₚ
    pub none : (m e : ℕ) (B' : Basis S) → 1 ≤ m → m < l → Chain B₀ m e B' → B'.U ≢ 1ₚ
