-- What the functions ask and promise. Polynomials are `row` of lists (crate math_rows).
--   square   Square   a² − 3 gh b c
--   cubes    Cubes    h b³ + g c³
--   norm     Norm     the norm of a + b r + c w
-- Each made list is as long as the slice it was made in. In proofs/Norms: `norm_unique`, for a prime p there is one such list.
use Rattle.std.specs.Prelude.{◌≡◌, List, ℕ, ◌<◌, ◌≤◌, length, get_or}
use Rattle.math_fp.specs.Fp.{Prime}
use Rattle.math_rows.specs.Made.{reading}
use Rattle.math_rows.specs.Row.{row}
use Rattle.poly_long.specs.Long.{Storable}
use Rattle.unit_norm.specs.Norm.{norm}

-- the places of the norm
abbrev pub places : ℕ
places = 12327

module _ (p : ℕ) (pr : Prime p) where
  open (reading p pr).𝓥.L.ops use {add as ◌⊕◌, mul as ◌⊗◌, neg as ⊖◌}

  infixl 60 ◌⊕◌
  infixl 70 ◌⊗◌
  infix 80 ⊖◌
  abbrev pub square_of : List ℕ → List ℕ → List ℕ → List ℕ → (reading p pr).𝓥.L.El
  square_of gh a b c =
      let ρ = reading p pr in
      let w = row ρ gh ⊗ (row ρ b ⊗ row ρ c) in
      row ρ a ⊗ row ρ a ⊕ ⊖ (w ⊕ w ⊕ w)

  abbrev pub cubes_of : List ℕ → List ℕ → List ℕ → List ℕ → (reading p pr).𝓥.L.El
  cubes_of g h b c =
      let ρ = reading p pr in
      row ρ h ⊗ row ρ b ⊗ (row ρ b ⊗ row ρ b) ⊕ row ρ g ⊗ row ρ c ⊗ (row ρ c ⊗ row ρ c)

pub record SquareAsks (p : ℕ) (gh a b c d : List ℕ) : Type 0 where
  pub modulus : Storable p
  pub three : 3 ≤ p
  pub size_gh : length gh ≡ 26
  pub size_a : length a ≡ 4096
  pub size_b : length b ≡ 4096
  pub size_c : length c ≡ 4096
  pub room : length d ≡ 8218

pub record Square (p : ℕ) (gh a b c d r : List ℕ) : Type 0 where
  pub size : length r ≡ length d
  pub law : (pr : Prime p) → row (reading p pr) r ≡ square_of p pr gh a b c

pub record CubesAsks (p : ℕ) (g h b c d : List ℕ) : Type 0 where
  pub modulus : Storable p
  pub size_g : length g ≡ 13
  pub size_h : length h ≡ 13
  pub size_b : length b ≡ 4096
  pub size_c : length c ≡ 4096
  pub room : length d ≡ 12301

pub record Cubes (p : ℕ) (g h b c d r : List ℕ) : Type 0 where
  pub size : length r ≡ length d
  pub law : (pr : Prime p) → row (reading p pr) r ≡ cubes_of p pr g h b c

pub record NormAsks (p : ℕ) (g h a b c d : List ℕ) : Type 0 where
  pub modulus : Storable p
  pub three : 3 ≤ p
  pub size_g : length g ≡ 13
  pub size_h : length h ≡ 13
  pub size_a : length a ≡ 4096
  pub size_b : length b ≡ 4096
  pub size_c : length c ≡ 4096
  pub room : length d ≡ places

pub record Norm (p : ℕ) (g h a b c d r : List ℕ) : Type 0 where
  pub size : length r ≡ length d
  pub each : (i : ℕ) → get_or r i 0 < p
  pub law : (pr : Prime p) → row (reading p pr) r ≡ norm p pr g h a b c
