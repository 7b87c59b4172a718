-- What is next where the program stands, and where it stands then, as far as no call of the system decides it.
--   Plans s a         what comes next where the program stands at s: with its descriptor, and with the part of the answers
--   with_piece s m p  a piece of m bytes was read, in phase p: what is pending stays
--   Ended d s r d'    the input's end was read: what is pending is answered
--   at_stop s         all is written
-- Theorems, proofs/Turns: `plan_unique`, `ended_unique`: one outcome for each input.
use Rattle.std.specs.Prelude.{◌≡◌, List, ℕ, ◌≤◌, ◌<◌, pos}
use Rattle.text_end.specs.Ends.{Ends}
use Rattle.lister_turn.specs.declared.Stand.{Stand}
use Rattle.lister_turn.specs.declared.Act.{Act}
use Rattle.lister_turn.specs.declared.Act.TheVariants.{Write, Answer, Read, Stop}

-- standard output is descriptor 1, standard input 0
abbrev pub Plans : Stand → Act → Type 0
Plans s (Write fd f t) = (fd ≡ pos 1) × (f ≡ s.from) × (t ≡ s.to) × (s.from < s.to)
Plans s Answer = (s.to ≤ s.from) × (s.at < s.m)
Plans s (Read fd) = (fd ≡ pos 0) × (s.to ≤ s.from) × (s.m ≤ s.at) × (s.phase ≡ 0)
Plans s Stop = (s.to ≤ s.from) × (s.m ≤ s.at) × (s.phase ≡ 0 → ⊥)

abbrev pub with_piece : Stand → ℕ → ℕ → Stand
with_piece s m p = record { n = s.n; at = 0; m = m; from = 0; to = 0; phase = p }

pub record Ended (d : List ℕ) (s r : Stand) (d' : List ℕ) : Type 0 where
  pub ends : Ends d s.n r.to d'
  pub n : r.n ≡ 0
  pub at : r.at ≡ 0
  pub m : r.m ≡ 0
  pub from : r.from ≡ 0
  pub phase : r.phase ≡ 1

abbrev pub at_stop : Stand → Stand
at_stop s = record { n = s.n; at = s.at; m = s.m; from = s.from; to = s.to; phase = 2 }
