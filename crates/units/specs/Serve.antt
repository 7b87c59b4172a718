-- What the program does, turn by turn, whatever its reads and writes answer.
--   Call, took, brought    a write or a read with its answer; the bytes that were taken, or that came
--   Moved n got, told r    what a call that is handed n bytes may answer, as a number; what a call answered, as that number
--   Settles w p q          the phase after a call that moved w bytes; 3, a failure, only where w is 0
--   Wrote, Answers, Heard  what is next after a write, after lines of a piece were answered, after a read
--   Turn, Turns            one turn, with the call made in it; what the reader has left and the writer holds changes by that call alone
--   Asks                   what a turn asks
--   Run cs k b d s         turns from the start on, with the calls cs, the latest first: pending bytes in k, the piece in b, answers in d
--   Begun, Ending           what was taken is a beginning of the answers to lines that have ended; of the output
--   Ran                    where the program stops: what it read and wrote since the start
-- Theorems, proofs/Hearing: `run_output`, in phase 2 what the writes took, joined, is the output to what the reads brought, joined;
-- `run_begins`, in every other phase it is a beginning of the answers to lines that have ended, so none is of a line not read to its end.
-- Not proved, as no contract speaks of the world: that what the library's standard input gives and its standard output takes are the bytes
-- of the process's own two streams.
use Rattle.std.specs.Prelude.{◌≡◌, ◌⊎◌, List, [], ◌∷◌, ◌++◌, ℕ, zero, suc, ◌+◌, ◌≤◌, ◌<◌, length, take, ℤ, pos, negsuc, Option, Result, Ok, Err}
use Rattle.std.specs.Io.KnownBytes.{Consumes, Appends}
use Rattle.base_lists.specs.Pieces.{between}
use Rattle.text_cut.specs.Lines.{Line, lines_of}
use Rattle.text_cut.specs.Feed.{at_end, Answered, Output}
use Rattle.lister.specs.Listing.{room, Lists, Passes}
use Rattle.lister.specs.declared.Going.{Going}
use Rattle.lister_turn.specs.declared.Stand.{Stand}
use Rattle.lister_turn.specs.declared.Act.{Act}
use Rattle.lister_turn.specs.declared.Act.TheVariants.{Write, Answer, Read, Stop}
use Rattle.lister_turn.specs.Turn.{Plans, Ended, at_stop}

-- a call with its answer; of a read, with what the slice held then
pub data Call : Type 0 where
  write : List ℕ → ℤ → Call
  read : ℤ → List ℕ → Call

abbrev pub moved : ℤ → ℕ
moved (pos k) = k
moved (negsuc k) = 0

-- a call that is handed n bytes answers -1, or how many bytes it moved, at most n
abbrev pub Moved : ℕ → ℤ → Type 0
Moved n (pos k) = k ≤ n
Moved n (negsuc k) = k ≡ 0

abbrev pub told : {E : Type 0} → Result ℕ E → ℤ
told (Ok k) = pos k
told (Err e) = negsuc 0

unfoldable pub took : List Call → List ℕ
took [] = []
took (write bytes got ∷ cs) = took cs ++ take (moved got) bytes
took (read got bytes ∷ cs) = took cs

unfoldable pub brought : List Call → List ℕ
brought [] = []
brought (write bytes got ∷ cs) = brought cs
brought (read got bytes ∷ cs) = brought cs ++ take (moved got) bytes

-- a call that moved bytes has not failed; any other may be tried again
abbrev pub Settles : ℕ → ℕ → ℕ → Type 0
Settles zero p q = (q ≡ p) ⊎ (q ≡ 3)
Settles (suc w) p q = q ≡ p

pub record Wrote (s : Stand) (got : ℤ) (r : Stand) : Type 0 where
  pub n : r.n ≡ s.n
  pub at : r.at ≡ s.at
  pub m : r.m ≡ s.m
  pub from : r.from ≡ s.from + moved got
  pub to : r.to ≡ s.to
  pub phase : Settles (moved got) s.phase r.phase

pub record Answers (k b d : List ℕ) (s r : Stand) (k' d' : List ℕ) : Type 0 where
  pub passes : Passes k (take s.m b) d (record { at = s.at; n = s.n; to = 0 }) (record { at = r.at; n = r.n; to = r.to }) k' d'
  pub kept : length k' ≡ length k
  pub m : r.m ≡ s.m
  pub from : r.from ≡ 0
  pub phase : r.phase ≡ s.phase

-- a piece came, or nothing
pub record Came (d : List ℕ) (s : Stand) (got : ℤ) (r : Stand) (d' : List ℕ) : Type 0 where
  pub n : r.n ≡ s.n
  pub at : r.at ≡ 0
  pub m : r.m ≡ moved got
  pub from : r.from ≡ 0
  pub to : r.to ≡ 0
  pub phase : Settles (moved got) s.phase r.phase
  pub same : d' ≡ d

abbrev pub Heard : List ℕ → Stand → ℤ → Stand → List ℕ → Type 0
Heard d s (pos zero) r d' = Ended d s r d'
Heard d s (pos (suc g)) r d' = Came d s (pos (suc g)) r d'
Heard d s (negsuc g) r d' = Came d s (negsuc g) r d'

pub data Turn (k b d : List ℕ) (s r : Stand) : List Call → List ℕ → List ℕ → List ℕ → Type 0 where
  writes : (got : ℤ) → Plans s (Write (pos 1) s.from s.to) → Moved (length (between s.from s.to d)) got → Wrote s got r
      → Turn k b d s r (write (between s.from s.to d) got ∷ []) k b d
  answers : {k' d' : List ℕ} → Plans s Answer → Answers k b d s r k' d' → Turn k b d s r [] k' b d'
  reads : {b' d' : List ℕ} (got : ℤ) → Plans s (Read (pos 0)) → length b' ≡ length b → Moved (length b) got
      → Heard d s got r d' → Turn k b d s r (read got b' ∷ []) k b' d'
  stops : Plans s Stop → r ≡ at_stop s → Turn k b d s r [] k b d

-- i and i' are what the reader has left before and after, o and o' what the writer holds, where those are known
pub record Turns (i i' o o' : Option (List ℕ)) (k b d : List ℕ) (s r : Stand) (k' b' d' : List ℕ) : Type 0 where
  pub calls : List Call
  pub turn : Turn k b d s r calls k' b' d'
  pub input : Consumes i i' (brought calls)
  pub output : Appends o o' (took calls)

-- what a turn asks: the piece and the answers lie within their slices
pub record Asks (b d : List ℕ) (s : Stand) : Type 0 where
  pub piece : s.m ≤ length b
  pub answers : s.to ≤ length d
  pub large : room ≤ length d

abbrev pub start : Stand
start = record { n = 0; at = 0; m = 0; from = 0; to = 0; phase = 0 }

pub data Run : List Call → List ℕ → List ℕ → List ℕ → Stand → Type 0 where
  begin : (k b d : List ℕ) → length k ≡ 255 → room ≤ length d → Run [] k b d start
  more : {cs c : List Call} {k b d k' b' d' : List ℕ} {s r : Stand} → Run cs k b d s → s.phase < 2 → Turn k b d s r c k' b' d'
      → Run (c ++ cs) k' b' d' r

-- what was taken is a beginning of the answers to `lines`, those that have ended in what has been seen of the input
pub record Begun (cs : List Call) : Type 0 where
  pub seen : List ℕ
  pub unseen : List ℕ
  pub input : brought cs ≡ seen ++ unseen
  pub lines : List Line
  pub left : ℕ
  pub cut : lines_of 255 seen ≡ lines ++ at_end left
  pub rest : List ℕ
  pub answered : Answered Lists lines (took cs ++ rest)

-- once the input's end was read, of the output
pub record Ending (cs : List Call) : Type 0 where
  pub rest : List ℕ
  pub output : Output Lists (brought cs) (took cs ++ rest)

pub record Ran (i i' o o' : Option (List ℕ)) (s : Stand) : Type 0 where
  pub calls : List Call
  pub input : Consumes i i' (brought calls)
  pub output : Appends o o' (took calls)
  pub k : List ℕ
  pub b : List ℕ
  pub d : List ℕ
  pub run : Run calls k b d s
  pub whole : s.phase ≡ 2 → Output Lists (brought calls) (took calls)
  pub part : Begun calls ⊎ Ending calls
