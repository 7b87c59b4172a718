-- What the functions that fill the two lists ask and hand out. g and h are the coefficients of G and H from the leading one down.
--   Listed p l                 a list of coefficients, below a modulus that fits what is stored
--   Leads p g h                two leading coefficients, for a prime that is accepted
--   LeadRoot p g h c           c is the cube root of g h²
--   ThriceInverse p c u        u is the inverse of 3 c²
--   Room, Grown                an accepted field with two lists to be filled; the lists filled
use Rattle.std.specs.Prelude.{◌≡◌, List, ℕ, ◌*◌, ◌%◌, ◌<◌, ◌≤◌, length}
use Rattle.base_answers.specs.Limits.{longest}
use Rattle.math_fp.specs.Fp.{Prime}
use Rattle.field_open.specs.Refusal.{Degree, Accepted}
use Rattle.field_roots.specs.SeriesOf.{SeriesOf}

pub record Listed (p : ℕ) (l : List ℕ) : Type 0 where
  pub small : p < 65536
  pub list : (d : ℕ) × Degree p l d

pub record Leads (p g h : ℕ) : Type 0 where
  pub prime : Prime p
  pub low : 5 ≤ p
  pub small : p < 65536
  pub kind : p % 3 ≡ 2
  pub g_some : 0 < g
  pub g_below : g < p
  pub h_some : 0 < h
  pub h_below : h < p

pub record LeadRoot (p g h c : ℕ) : Type 0 where
  pub some : 0 < c
  pub below : c < p
  pub law : (c * c * c) % p ≡ (g * (h * h)) % p

pub record ThriceInverse (p c u : ℕ) : Type 0 where
  pub below : u < p
  pub law : (3 * (c * c) * u) % p ≡ 1 % p

pub record Room (p : ℕ) (G H r w : List ℕ) : Type 0 where
  pub accepted : Accepted p G H
  pub even : length w ≡ length r
  pub near : length r ≤ longest

pub record Grown (p : ℕ) (G H r r' w' : List ℕ) : Type 0 where
  pub size : length r' ≡ length r
  pub series : SeriesOf p G H r' w'
