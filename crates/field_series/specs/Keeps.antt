-- The opened field: numbers and rows that hold the accepted field p, G, H.
--   Keeps p G H g h gh dr dw r w   g, h and gh are the rows of G, H and G·H, dr and dw the degrees of r and w, and r and w hold the first 32
--                                  coefficients of theirs
--   Kept c G H                     the same, read off the struct, for its own p
--   Known c                        c holds some accepted field
--   Holding p G H c                c holds the field p, G, H
-- In proofs/Keeps.antt: `holding_unique`, a field has one such struct. What follows of rows, degrees and series: basis_field, proofs/Keeps.antt.
use Rattle.std.specs.Prelude.{◌≡◌, List, ℕ, length}
use Rattle.field_open.specs.Refusal.{Accepted}
use Rattle.field_open.specs.Opening.{Held}
use Rattle.field_roots.specs.SeriesOf.{SeriesOf}
use Rattle.field_series.specs.declared.OpenedField.{OpenedField}

pub record Keeps (p : ℕ) (G H g h gh : List ℕ) (dr dw : ℕ) (r w : List ℕ) : Type 0 where
  pub accepted : Accepted p G H
  pub held : Held p G H (record { p = p; g = g; h = h; gh = gh; dr = dr; dw = dw })
  pub size : length r ≡ 32
  pub series : SeriesOf p G H r w

abbrev pub Kept : OpenedField → List ℕ → List ℕ → Type 0
Kept c G H = Keeps c.field.p G H c.field.g c.field.h c.field.gh c.field.dr c.field.dw c.r c.w

pub record Known (c : OpenedField) : Type 0 where
  pub G : List ℕ
  pub H : List ℕ
  pub kept : Kept c G H

abbrev pub Holding : ℕ → List ℕ → List ℕ → OpenedField → Type 0
Holding p G H c = (c.field.p ≡ p) × Kept c G H
