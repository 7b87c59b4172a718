-- The contracts of the inner functions that read a line.
--   ValueOf s v      v is the value of a numeral
--   Filled s d d'    d' is d with the numbers of the list s in front
--   FieldsTell s r   a line's three fields
--   ShapeTells s r   whether a line reads, and the texts of its lists (Sound)
use Rattle.std.specs.Prelude.{◌≡◌, ◌≢◌, List, [], ◌∷◌, ◌++◌, ℕ, length, drop, Option, Some, None}
use Rattle.std.specs.Borrow.{Bor}
use Rattle.text_put.specs.Print.{semicolon}
use Rattle.text_cut.specs.Pieces.{pieces}
use Rattle.text_number.specs.Grammar.{Number, Listed}
use Rattle.text_read.specs.Grammar.{Reads}
use Rattle.text_read.specs.declared.Marks.{Marks}

abbrev pub ValueOf : List ℕ → ℕ → Type 0
ValueOf s v = (n : ℕ) → Number s n → v ≡ n

abbrev pub Filled : List ℕ → List ℕ → List ℕ → Type 0
Filled s d d' = (l : List ℕ) → Listed s l → d' ≡ l ++ drop (length l) d

abbrev pub FieldsTell : List ℕ → Option (Bor (List ℕ) × Bor (List ℕ) × Bor (List ℕ)) → Type 0
FieldsTell s (Some (a, b, c)) = pieces semicolon s ≡ a.now ∷ b.now ∷ c.now ∷ []
FieldsTell s None = length (pieces semicolon s) ≢ 3

pub record Sound (line : List ℕ) (m : Marks) : Type 0 where
  pub G : List ℕ
  pub H : List ℕ
  pub reads : Reads line m.p G H
  pub G_text : Listed m.g.now G
  pub H_text : Listed m.h.now H
  pub count_G : length G ≡ m.ng
  pub count_H : length H ≡ m.nh

abbrev pub ShapeTells : List ℕ → Option Marks → Type 0
ShapeTells line (Some m) = Sound line m
ShapeTells line None = (p : ℕ) (G H : List ℕ) → Reads line p G H → ⊥
