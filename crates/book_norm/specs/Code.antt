-- What the functions ask of and promise each other. Polynomials are `row` of lists (crate math_rows).
--   load        Loaded          the slice holds list k of the body, zeros above it
--   body_norm   BodyNorm        the norm of the body's E
-- Each made list is as long as the slice it was made in.
use Rattle.std.specs.Prelude.{◌≡◌, List, ℕ, ◌<◌, ◌≤◌, length, get_or}
use Rattle.math_fp.specs.Fp.{Prime}
use Rattle.math_rows.specs.Made.{reading}
use Rattle.math_rows.specs.Row.{row}
use Rattle.book_body.specs.Body.{list_at, body_of, Finished}
use Rattle.unit_norm.specs.Norm.{norm}
use Rattle.unit_norm.specs.Code.{places}

pub record LoadAsks (s : List ℕ) (k : ℕ) (d : List ℕ) : Type 0 where
  pub list : k < 5
  pub fits : length (list_at s k) ≤ length d
  pub small : (i : ℕ) → get_or (list_at s k) i 0 < 65536

pub record Loaded (s : List ℕ) (k : ℕ) (d r : List ℕ) : Type 0 where
  pub size : length r ≡ length d
  pub places : (i : ℕ) → get_or r i 0 ≡ get_or (list_at s k) i 0

pub record BodyNormAsks (s d : List ℕ) : Type 0 where
  pub body : Finished s
  pub room : length d ≡ places

pub record BodyNorm (s d r : List ℕ) : Type 0 where
  pub size : length r ≡ length d
  pub each : (i : ℕ) → get_or r i 0 < (body_of s).p
  pub law : (pr : Prime (body_of s).p)
      → row (reading (body_of s).p pr) r ≡ norm (body_of s).p pr (body_of s).G (body_of s).H (body_of s).E0 (body_of s).E1 (body_of s).E2
