-- The unit lister (document 01).
--   blank                    a lent slice of 6 c zeros, c = 1,024
--   Lists line t             t answers the line (without its newline): refused 12 where it does not read as p;G;H; else what the unit of
--                            p, G, H with budget 1,000 and c = 1,024 is, printed behind the field, whose lists have no zeros at their ends
--   Told p G H d at r d'     the answer to a line that reads is put into d
--   Answer line d at r d'    the answer is put into d at the place `at`, as far as d reaches; r is the place after it
--   Steps k s d g r k' d'    one step through a piece s of the input, with the pending bytes in k and the output in d: from g to r
--   Way k s d g i r k' d'    i steps, each from a place of d that leaves `room` bytes
--   Passes k s d g r k' d'   such steps up to the end of s, or until less than `room` bytes of d are left
-- Theorems: proofs/Once: `lists_unique`, `answer_unique`, one answer to a line; `passes_unique`, one outcome of the steps; `output_unique`, one output
-- to an input. proofs/Short: `lists_short`, an answer has at most `room` bytes. proofs/Paces: `passes_pace`, the lines met are answered
-- in order, each answer whole. That they are the lines of the input, whatever the pieces: `fed_lines` and `fed_output` of crate text_cut.
use Rattle.std.specs.Prelude.{◌≡◌, ◌⊎◌, List, ℕ, suc, ◌+◌, ◌≤◌, ◌<◌, length, take, replicate}
use Rattle.base_lists.specs.Pieces.{Put}
use Rattle.text_put.specs.Print.{line_text, refused_text}
use Rattle.text_cut.specs.Tells.{CutTells}
use Rattle.text_cut.specs.declared.Step.{Step}
use Rattle.text_cut.specs.declared.Step.TheVariants.{Whole, Broken, Pending}
use Rattle.text_read.specs.Grammar.{Reads}
use Rattle.field_open.specs.Padding.{unpad}
use Rattle.door_unit.specs.Unit.{UnitAnswer, Makes}
use Rattle.lister_print.specs.Text.{made_text}
use Rattle.lister.specs.declared.Going.{Going}

abbrev pub budget : ℕ
budget = 1000

-- 6 times 1,024
abbrev pub slots : ℕ
slots = 6144

abbrev pub blank : List ℕ
blank = replicate slots 0

pub data Lists (line : List ℕ) : List ℕ → Type 0 where
  malformed : ((p : ℕ) (G H : List ℕ) → Reads line p G H → ⊥) → Lists line (refused_text 12)
  read : (p : ℕ) (G H : List ℕ) (m : UnitAnswer) (rows scratch : List ℕ) → Reads line p G H
      → Makes 1 p (unpad G) (unpad H) budget blank blank m rows scratch → Lists line (made_text (line_text p (unpad G) (unpad H)) m rows)

-- the answer to a line that reads as p, G, H
pub record Told (p : ℕ) (G H d : List ℕ) (at r : ℕ) (d' : List ℕ) : Type 0 where
  pub m : UnitAnswer
  pub rows : List ℕ
  pub scratch : List ℕ
  pub makes : Makes 1 p (unpad G) (unpad H) budget blank blank m rows scratch
  pub put : Put d at (made_text (line_text p (unpad G) (unpad H)) m rows) r d'

pub record Answer (line d : List ℕ) (at r : ℕ) (d' : List ℕ) : Type 0 where
  pub text : List ℕ
  pub lists : Lists line text
  pub put : Put d at text r d'

-- no answer is longer
abbrev pub room : ℕ
room = 20000

-- what a step does where `cut` says c and leaves k'
abbrev pub Does : List ℕ → List ℕ → Going → Step → List ℕ → Going → List ℕ → Type 0
Does s d g (Whole m next) k' r d' = (r.at ≡ next) × (r.n ≡ 0) × Answer (take m k') d g.to r.to d'
Does s d g (Broken next) k' r d' = (r.at ≡ next) × (r.n ≡ 0) × Put d g.to (refused_text 12) r.to d'
Does s d g (Pending m) k' r d' = (r.at ≡ length s) × (r.n ≡ m) × (r.to ≡ g.to) × (d' ≡ d)

pub record Steps (k s d : List ℕ) (g r : Going) (k' d' : List ℕ) : Type 0 where
  pub c : Step
  pub cuts : CutTells k g.n s g.at c k'
  pub does : Does s d g c k' r d'

-- an answer begins only where `room` bytes are left
pub data Way (k s d : List ℕ) (g : Going) : ℕ → Going → List ℕ → List ℕ → Type 0 where
  here : Way k s d g 0 g k d
  more : {i : ℕ} {r q : Going} {k' d' k₂ d₂ : List ℕ} → Way k s d g i r k' d' → r.at < length s → r.to + room ≤ length d → Steps k' s d' r q k₂ d₂
      → Way k s d g (suc i) q k₂ d₂

pub record Passes (k s d : List ℕ) (g r : Going) (k' d' : List ℕ) : Type 0 where
  pub steps : ℕ
  pub way : Way k s d g steps r k' d'
  pub stops : (length s ≤ r.at) ⊎ (length d < r.to + room)
