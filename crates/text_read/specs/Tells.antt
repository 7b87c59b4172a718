-- What the answer of the public function says, by its cases: a line, or none.
--   ParseTells line g h r g' h'   a whole line: it reads, and g' and h' are g and h with G and H in front (ReadAs); or it does not read
--                                 as lists that g and h have room for, and they stay as they were
-- One outcome for each input: proofs/Answers.
use Rattle.std.specs.Prelude.{◌≡◌, List, ◌++◌, ℕ, ◌≤◌, length, drop, Option, Some, None}
use Rattle.text_read.specs.Grammar.{Reads}
use Rattle.text_read.specs.declared.Line.{Line}

pub record ReadAs (line : List ℕ) (g h : List ℕ) (p ng nh : ℕ) (g' h' : List ℕ) : Type 0 where
  pub G : List ℕ
  pub H : List ℕ
  pub reads : Reads line p G H
  pub count_G : length G ≡ ng
  pub count_H : length H ≡ nh
  pub room_G : ng ≤ length g
  pub room_H : nh ≤ length h
  pub front_G : g' ≡ G ++ drop ng g
  pub front_H : h' ≡ H ++ drop nh h

abbrev pub ParseTells : List ℕ → List ℕ → List ℕ → Option Line → List ℕ → List ℕ → Type 0
ParseTells line g h (Some l) g' h' = ReadAs line g h l.p l.ng l.nh g' h'
ParseTells line g h None g' h' =
    ((p : ℕ) (G H : List ℕ) → Reads line p G H → length G ≤ length g → length H ≤ length h → ⊥) × (g' ≡ g) × (h' ≡ h)
