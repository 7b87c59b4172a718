-- What `next_line` and the functions under it say.
--   Carried k n x r k'       x goes behind n pending bytes: k' is k with x from n on, as far as k reaches; r counts, as Kept does
--   up_to s at                the bytes of s from `at` on, up to the newline if there is one
--   CutTells k n s at r k'   one step through the input, in the bytes of s from `at` on, by cases (CutAt: a line ends)
-- What a caller learns, and one outcome for each input: proofs/Steps.
use Rattle.std.specs.Prelude.{◌≡◌, List, ℕ, ◌+◌, ◌≤◌, ◌<◌, length, drop}
use Rattle.base_lists.specs.Pieces.{Placed}
use Rattle.text_put.specs.Print.{newline}
use Rattle.text_cut.specs.Pieces.{until}
use Rattle.text_cut.specs.declared.Step.{Step}
use Rattle.text_cut.specs.declared.Step.TheVariants as step

abbrev pub Carried : List ℕ → ℕ → List ℕ → ℕ → List ℕ → Type 0
Carried k n x r k' = Placed (length k + 1) k n x r k'

abbrev pub up_to : List ℕ → ℕ → List ℕ
up_to s at = until newline (drop at s)

pub record CutAt (k : List ℕ) (n : ℕ) (s : List ℕ) (at m next : ℕ) (k' : List ℕ) : Type 0 where
  pub carried : Carried k n (up_to s at) m k'
  pub place : next ≡ at + length (up_to s at) + 1

abbrev pub CutTells : List ℕ → ℕ → List ℕ → ℕ → Step → List ℕ → Type 0
CutTells k n s at (step.Whole m next) k' = CutAt k n s at m next k' × (next ≤ length s) × (m ≤ length k)
CutTells k n s at (step.Broken next) k' = (m : ℕ) × CutAt k n s at m next k' × (next ≤ length s) × (length k < m)
CutTells k n s at (step.Pending m) k' = Carried k n (up_to s at) m k' × (length s ≤ at + length (up_to s at))
