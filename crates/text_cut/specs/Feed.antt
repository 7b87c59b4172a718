-- A program that goes through its input by `next_line`, where the input arrives in pieces of any sizes.
--   Fed earlier s at lines k m   the program has passed the pieces `earlier`, joined, and the first `at` bytes of the piece s; it has
--                                met `lines` in them; its slice is k, and m bytes of the next line are pending
--   at_end m                     what is pending when the input ends: nothing, or a line without its newline
--   Answered A lines t           t is the answers to the lines, one after the other: A says what answers a whole line, a broken one is
--                                refused 12
--   end_text m                   the answer to what is pending at the end
--   Output A input t             t is the whole output to the input, where a line has at most 255 bytes
--   Served A k m s at d to k' m' at' d' to'   a step, or several: from the slice k with m bytes pending, at the place `at` of the piece
--                                s, to k', m', at'; the answers to the lines met are put into d at `to`, which gives d' and to'
-- The theorems are fed_lines and fed_output of proofs/Feeds: lines and output are those of the input so far, whatever the pieces.
-- How a step is made from `next_line` and an answer: proofs/Serves.
use Rattle.std.specs.Prelude.{List, [], ◌∷◌, ◌++◌, ℕ, zero, suc, ◌≤◌, length, take}
use Rattle.base_lists.specs.Pieces.{Put}
use Rattle.text_put.specs.Print.{refused_text}
use Rattle.text_cut.specs.Lines.{Line, whole, broken, lines_of}
use Rattle.text_cut.specs.Tells.{CutTells}
use Rattle.text_cut.specs.declared.Step.TheVariants.{Whole, Broken, Pending}

pub data Fed : List ℕ → List ℕ → ℕ → List Line → List ℕ → ℕ → Type 0 where
  start : {k : List ℕ} (s : List ℕ) → Fed [] s 0 [] k 0
  line_ends : {earlier s : List ℕ} {at : ℕ} {lines : List Line} {k : List ℕ} {m : ℕ} (m' next : ℕ) (k' : List ℕ)
      → Fed earlier s at lines k m → CutTells k m s at (Whole m' next) k' → Fed earlier s next (lines ++ whole (take m' k') ∷ []) k' 0
  long_line_ends : {earlier s : List ℕ} {at : ℕ} {lines : List Line} {k : List ℕ} {m : ℕ} (next : ℕ) (k' : List ℕ)
      → Fed earlier s at lines k m → CutTells k m s at (Broken next) k' → Fed earlier s next (lines ++ broken ∷ []) k' 0
  piece_ends : {earlier s : List ℕ} {at : ℕ} {lines : List Line} {k : List ℕ} {m : ℕ} (m' : ℕ) (k' : List ℕ)
      → Fed earlier s at lines k m → CutTells k m s at (Pending m') k' → Fed earlier s (length s) lines k' m'
  next_piece : {earlier s : List ℕ} {at : ℕ} {lines : List Line} {k : List ℕ} {m : ℕ} (t : List ℕ)
      → Fed earlier s at lines k m → length s ≤ at → Fed (earlier ++ s) t 0 lines k m

unfoldable pub at_end : ℕ → List Line
at_end zero = []
at_end (suc m) = broken ∷ []

unfoldable pub end_text : ℕ → List ℕ
end_text zero = []
end_text (suc m) = refused_text 12

pub data Answered (A : List ℕ → List ℕ → Type 0) : List Line → List ℕ → Type 0 where
  no_line : Answered A [] []
  whole_line : {s t : List ℕ} {lines : List Line} {u : List ℕ} → A s t → Answered A lines u → Answered A (whole s ∷ lines) (t ++ u)
  broken_line : {lines : List Line} {u : List ℕ} → Answered A lines u → Answered A (broken ∷ lines) (refused_text 12 ++ u)

abbrev pub Output : (List ℕ → List ℕ → Type 0) → List ℕ → List ℕ → Type 0
Output A input t = Answered A (lines_of 255 input) t

pub record Served (A : List ℕ → List ℕ → Type 0) (k : List ℕ) (m : ℕ) (s : List ℕ) (at : ℕ) (d : List ℕ) (to : ℕ) (k' : List ℕ) (m' at' : ℕ) (d' : List ℕ) (to' : ℕ)
    : Type 0 where
  pub lines : List Line
  pub text : List ℕ
  pub fed : {earlier : List ℕ} {before : List Line} → Fed earlier s at before k m → Fed earlier s at' (before ++ lines) k' m'
  pub answered : Answered A lines text
  pub put : Put d to text to' d'
