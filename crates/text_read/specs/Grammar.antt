-- What a line of the lister says: p;G;H, a number and two lists.
--   field line k       the text of field k of a line: fields stand between semicolons
--   Reads line p G H   the line, of at most 255 bytes and without its newline, is three fields: the number p, the lists G and H
-- Numbers and lists are those of crate text_number. A line reads in at most one way, and what it reads as has no other writing:
-- proofs/Writings.
use Rattle.std.specs.Prelude.{◌≡◌, List, [], ℕ, ◌≤◌, length, get_or}
use Rattle.text_put.specs.Print.{semicolon}
use Rattle.text_cut.specs.Pieces.{pieces}
use Rattle.text_number.specs.Grammar.{Number, Listed}

abbrev pub field : List ℕ → ℕ → List ℕ
field line k = get_or (pieces semicolon line) k []

pub record Reads (line : List ℕ) (p : ℕ) (G H : List ℕ) : Type 0 where
  pub short : length line ≤ 255
  pub three : length (pieces semicolon line) ≡ 3
  pub first : Number (field line 0) p
  pub second : Listed (field line 1) G
  pub third : Listed (field line 2) H
