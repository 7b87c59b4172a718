-- A body of the book.
--   Body            a body as a value: p, G, H, the period, E0, E1, E2
--   UnitList p l    the rule of an E list: not empty, at most 4,096 long, coefficients below p, the last not 0
--   FirstList l     the rule of E0 besides: monic, with an odd length of 3 or more; First n top says it of the length and the last
--                   coefficient
--   Rule b          the body rule
--   FieldSays b n   n is the number of the field's refusal, 1 to 8, or 0: p, G, H are accepted
--   OneField a b    two bodies are of one field: p is the same, and the pairs G, H agree after all lists are made monic, in either order
--   body_bytes b     the body's bytes: p, the lengths of the lists, the period, the lists
--   body_of s        the value that bytes say
--   Formed s        the bytes' length is right, and what they say obeys the body rule
--   Finished s      they are formed, and their field is accepted
-- That a body written reads back, and that bytes of the right length are the writing of what they say, is in proofs/Body.antt; that
-- OneField is an equivalence on bodies whose field is accepted is in proofs/Relation.antt: one_refl, one_sym, one_trans.
use Rattle.std.specs.Prelude.{◌≡◌, List, [], ◌∷◌, ◌++◌, ℕ, ◌-◌, ◌%◌, ◌≤◌, length, get_or}
use Rattle.base_lists.specs.Coefficients.{Coefficients}
use Rattle.field_open.specs.Refusal.{Refusal}
use Rattle.pair_laws.specs.OneField as pairs
use Rattle.book_bytes.specs.Bytes.{le, words, u2, u4}
use Rattle.book_bytes.specs.Bytes as bytes

-- ---- as a value
pub record Body : Type 0 where
  pub p : ℕ
  pub G : List ℕ
  pub H : List ℕ
  pub period : ℕ
  pub E0 : List ℕ
  pub E1 : List ℕ
  pub E2 : List ℕ

abbrev pub UnitList : ℕ → List ℕ → Type 0
UnitList p l = Coefficients 4096 p l (length l - 1)

pub record First (n top : ℕ) : Type 0 where
  pub monic : top ≡ 1
  pub odd : n % 2 ≡ 1
  pub three : 3 ≤ n

abbrev pub FirstList : List ℕ → Type 0
FirstList l = First (length l) (get_or l (length l - 1) 0)

pub record Rule (b : Body) : Type 0 where
  pub from : 1 ≤ b.period
  pub to : b.period ≤ 1000000
  pub row0 : UnitList b.p b.E0
  pub row1 : UnitList b.p b.E1
  pub row2 : UnitList b.p b.E2
  pub first : FirstList b.E0

abbrev pub FieldSays : Body → ℕ → Type 0
FieldSays b = Refusal b.p b.G b.H

pub record OneField (a b : Body) : Type 0 where
  pub p : a.p ≡ b.p
  pub pair : pairs.OneField a.p a.G a.H b.G b.H

-- ---- as bytes
abbrev pub joined : List (List ℕ) → List ℕ
joined [] = []
joined (x ∷ xs) = x ++ joined xs

unfoldable pub body_bytes : Body → List ℕ
body_bytes b =
    joined
    (le 2 b.p
    ∷ le 2 (length b.G) ∷ le 2 (length b.H) ∷ le 2 (length b.E0) ∷ le 2 (length b.E1) ∷ le 2 (length b.E2)
    ∷ le 4 b.period
    ∷ words b.G ∷ words b.H ∷ words b.E0 ∷ words b.E1 ∷ words b.E2 ∷ [])

-- the lists start after 16 bytes, and their lengths stand from byte 2 on
abbrev pub list_start : List ℕ → ℕ → ℕ
list_start = bytes.list_start 16 2

abbrev pub list_at : List ℕ → ℕ → List ℕ
list_at = bytes.list_at 16 2

unfoldable pub body_of : List ℕ → Body
body_of s = record {
  p = u2 s 0;
  G = list_at s 0;
  H = list_at s 1;
  period = u4 s 12;
  E0 = list_at s 2;
  E1 = list_at s 3;
  E2 = list_at s 4;
}

pub record Formed (s : List ℕ) : Type 0 where
  pub size : length s ≡ list_start s 5
  pub rule : Rule (body_of s)

pub record Finished (s : List ℕ) : Type 0 where
  pub formed : Formed s
  pub field : FieldSays (body_of s) 0
