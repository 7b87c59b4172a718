-- The cofactor's rows and the norm, from the low coefficients.
--   pair       Pair       the low coefficients of two products of rows
--   cofactor   Cofactor   the low coefficients of g x y + f v w: a row of the cofactor, for the right g and f
--   norm       Norm       the constant coefficient of E0 C0 + G H (E1 C2 + E2 C1), C the rows after E
--   element    the element held by the three rows from place at on, as series
--   invert     Inverted   the rows of cof(E)/N(E) after those of E, where N(E) is a constant that is not 0 and k coefficients hold the cofactor
use Rattle.std.specs.Prelude.{◌≡◌, ◌≢◌, List, [], ◌∷◌, ℕ, ◌+◌, ◌<◌, ◌≤◌, length, get_or, replicate}
use Rattle.base_answers.specs.Limits.{longest, longest_six}
use Rattle.math_fp.specs.Fp.{Prime}
use Rattle.math_triple.specs.Tri.{Tri, norm_t, cof_t}
use Rattle.math_valued.specs.Degree.{Lt}
use Rattle.math_rows.specs.Reading.{Reading}
use Rattle.math_rows.specs.Made.{reading}
use Rattle.math_rows.specs.Row.{row}
use Rattle.poly_long.specs.Long.{Storable, Low}
use Rattle.base_lists.specs.Pieces.{cut}

pub record PairAsks (p c k x y v w : ℕ) (rows s : List ℕ) : Type 0 where
  pub modulus : Storable p
  pub most : c ≤ longest
  pub upto : k ≤ c
  pub x_room : x + c ≤ length rows
  pub y_room : y + c ≤ length rows
  pub v_room : v + c ≤ length rows
  pub w_room : w + c ≤ length rows
  pub s_room : k + k ≤ length s
  pub short : length rows ≤ longest_six

pub record Pair (p c k x y v w : ℕ) (rows s s' : List ℕ) : Type 0 where
  pub size : length s' ≡ length s
  pub first : (pr : Prime p) → let ρ = reading p pr in Low ρ k (ρ.𝓥.L.ops.mul (row ρ (cut x c rows)) (row ρ (cut y c rows))) (cut 0 k s')
  pub second : (pr : Prime p) → let ρ = reading p pr in Low ρ k (ρ.𝓥.L.ops.mul (row ρ (cut v c rows)) (row ρ (cut w c rows))) (cut k k s')

pub record CofactorAsks (p c k x y v w : ℕ) (g f : List ℕ) (at : ℕ) (rows s : List ℕ) : Type 0 where
  pub pair : PairAsks p c k x y v w rows s
  pub g_most : length g ≤ longest
  pub f_most : length f ≤ longest
  pub room : at + k ≤ length rows

pub record Cofactor (p c k x y v w : ℕ) (g f : List ℕ) (at : ℕ) (rows s rows' s' : List ℕ) : Type 0 where
  pub size : length rows' ≡ length rows
  pub s_size : length s' ≡ length s
  pub before : (i : ℕ) → i < at → get_or rows' i 0 ≡ get_or rows i 0
  pub after : (i : ℕ) → at + k ≤ i → get_or rows' i 0 ≡ get_or rows i 0
  pub each : (i : ℕ) → i < k → get_or rows' (at + i) 0 < p
  pub law : (pr : Prime p) → let ρ = reading p pr in let o = ρ.𝓥.L.ops in
      Low ρ k (o.add (o.mul (row ρ g) (o.mul (row ρ (cut x c rows)) (row ρ (cut y c rows)))) (o.mul (row ρ f) (o.mul (row ρ (cut v c rows)) (row ρ (cut w c rows))))) (cut at k rows')

pub record NormAsks (p c : ℕ) (gh rows : List ℕ) : Type 0 where
  pub modulus : Storable p
  pub most : c ≤ longest
  pub gh_most : length gh ≤ longest
  pub room : length rows ≡ c + c + c + c + c + c

pub record Norm (p c : ℕ) (gh rows : List ℕ) (r : ℕ) : Type 0 where
  pub below : r < p
  pub law : (pr : Prime p) → let ρ = reading p pr in let o = ρ.𝓥.L.ops in
      let E0 = row ρ (cut 0 c rows) in let E1 = row ρ (cut c c rows) in let E2 = row ρ (cut (c + c) c rows) in
      let C0 = row ρ (cut (c + c + c) c rows) in let C1 = row ρ (cut (c + c + c + c) c rows) in let C2 = row ρ (cut (c + c + c + c + c) c rows) in
      Low ρ 1 (o.add (o.mul (row ρ gh) (o.add (o.mul E1 C2) (o.mul E2 C1))) (o.mul E0 C0)) (r ∷ [])

abbrev pub element : {p : ℕ} (ρ : Reading p) (at c : ℕ) → List ℕ → Tri ρ.𝓥.L.El
element ρ at c l = record { a = row ρ (cut at c l); b = row ρ (cut (at + c) c l); c = row ρ (cut (at + c + c) c l) }

pub record InvertAsks (p c k : ℕ) (g h gh ngh rows s : List ℕ) : Type 0 where
  pub modulus : Storable p
  pub most : c ≤ longest
  pub upto : k ≤ c
  pub g_most : length g ≤ longest
  pub h_most : length h ≤ longest
  pub gh_most : length gh ≤ longest
  pub ngh_most : length ngh ≤ longest
  pub room : length rows ≡ c + c + c + c + c + c
  pub s_room : length s ≡ length rows
  pub each : (i : ℕ) → get_or rows i 0 < p
  pub blank : (i : ℕ) → c + c + c ≤ i → get_or rows i 0 ≡ 0
  pub gh_is : (pr : Prime p) → let ρ = reading p pr in row ρ gh ≡ ρ.𝓥.L.ops.mul (row ρ g) (row ρ h)
  pub ngh_is : (pr : Prime p) → let ρ = reading p pr in row ρ ngh ≡ ρ.𝓥.L.ops.neg (row ρ gh)
  pub a_fits : (pr : Prime p) → let ρ = reading p pr in Lt ρ.𝓥 (cof_t ρ.𝓥.L.ops (row ρ g) (row ρ h) (element ρ 0 c rows)).a k
  pub b_fits : (pr : Prime p) → let ρ = reading p pr in Lt ρ.𝓥 (cof_t ρ.𝓥.L.ops (row ρ g) (row ρ h) (element ρ 0 c rows)).b k
  pub c_fits : (pr : Prime p) → let ρ = reading p pr in Lt ρ.𝓥 (cof_t ρ.𝓥.L.ops (row ρ g) (row ρ h) (element ρ 0 c rows)).c k
  pub constant : (pr : Prime p) → let ρ = reading p pr in (κ : ρ.𝓥.K.El) × (κ ≢ ρ.𝓥.K.ops.𝟎) × (norm_t ρ.𝓥.L.ops (row ρ g) (row ρ h) (element ρ 0 c rows) ≡ ρ.𝓥.const κ)

pub record Inverted (p c : ℕ) (g h rows s rows' s' : List ℕ) : Type 0 where
  pub size : length rows' ≡ length rows
  pub each : (i : ℕ) → get_or rows' i 0 < p
  pub before : (i : ℕ) → i < c + c + c → get_or rows' i 0 ≡ get_or rows i 0
  pub law : (pr : Prime p) → let ρ = reading p pr in let o = ρ.𝓥.L.ops in (ν : ρ.𝓥.L.El)
      → o.mul (norm_t o (row ρ g) (row ρ h) (element ρ 0 c rows)) ν ≡ o.𝟏
      → let C = cof_t o (row ρ g) (row ρ h) (element ρ 0 c rows) in let F = element ρ (c + c + c) c rows' in
      (F.a ≡ o.mul ν C.a) × (F.b ≡ o.mul ν C.b) × (F.c ≡ o.mul ν C.c)
  pub blank : s' ≡ replicate (length s) 0
