-- Rows in the record of 119 numbers.
--   StoredAsks B i a n   B is 0 from row i on, and a ends before n, which is at most 17
--   Stored B i a B'   B' is B with row i taken from a
--   Loaded B i r      r is row i of B, with zeros up to 32
--   SevenLoaded B b   b is the seven rows of B, so loaded
-- `part` is the i-th row (specs/Record.antt). The laws are in proofs/Store.antt and proofs/Loads.antt.
use Rattle.std.specs.Prelude.{◌≡◌, ◌⊎◌, List, ℕ, ◌+◌, ◌*◌, ◌<◌, ◌≤◌, length, get_or}
use Rattle.math_fp.specs.Fp.{Prime}
use Rattle.math_rows.specs.Made.{reading}
use Rattle.math_rows.specs.Row.{row, Row}
use Rattle.basis_record.specs.Record.{part}
use Rattle.basis_record.specs.Seven.{row_at}
use Rattle.basis_record.specs.declared.Seven.{Seven}

pub record StoredAsks (B : List ℕ) (i : ℕ) (a : List ℕ) (n : ℕ) : Type 0 where
  pub size : length B ≡ 119
  pub blank : (k : ℕ) → 17 * i ≤ k → get_or B k 0 ≡ 0
  pub row : i < 7
  pub each : (j : ℕ) → get_or a j 0 < 65536
  pub fits : n ≤ 17
  pub above : (j : ℕ) → n ≤ j → get_or a j 0 ≡ 0

pub record Stored (B : List ℕ) (i : ℕ) (a B' : List ℕ) : Type 0 where
  pub size : length B' ≡ 119
  pub here : (j : ℕ) → j < 17 → get_or B' (17 * i + j) 0 ≡ get_or a j 0
  pub there : (k : ℕ) → (k < 17 * i) ⊎ (17 * i + 17 ≤ k) → get_or B' k 0 ≡ get_or B k 0

pub record LoadAsks (B : List ℕ) (i : ℕ) : Type 0 where
  pub size : length B ≡ 119
  pub row : i < 7

pub record Loaded (B : List ℕ) (i : ℕ) (r : List ℕ) : Type 0 where
  pub is_row : (p : ℕ) → ((k : ℕ) → get_or B k 0 < p) → Row p r
  pub above : (j : ℕ) → 17 ≤ j → get_or r j 0 ≡ 0
  pub law : (p : ℕ) (pr : Prime p) → row (reading p pr) r ≡ row (reading p pr) (part i B)

pub record SevenLoaded (B : List ℕ) (b : Seven) : Type 0 where
  pub each : (i : ℕ) → i < 7 → Loaded B i (row_at b i)
