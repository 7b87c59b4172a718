-- A passed test proves its line.
--   sound        one line
--   all_sound    a list of lines
use mathlib.Core.List.{List, [], ◌∷◌}
use Prim.Native.Nat.{ℕ}
use lib.Dec.{T}
use Rattle.math_fp.proofs.Trial.{and_l, and_r}
use Rattle.examples_table.specs.Lines.{whatever, empty_G, Line, refuses, series, order, steps, closes, spends, period, no_period, unit, unit_norm, narrow, begun_book, no_book}
use Rattle.examples_table.specs.Decide.{Hints, decide, decide_all}
use Rattle.examples.specs.Lines.{Holds, AllHold}
use Rattle.examples.proofs.Firsts.{refuses_one, series_sound, empty_book_holds, no_book_sound}
use Rattle.examples.proofs.Records.{order_sound, steps_sound, closes_sound, spends_sound, period_sound, no_period_sound}
use Rattle.examples.proofs.Units.{unit_sound, norm_sound, narrow_sound}

pub sound : (l : Line) (h : Hints) → T (decide l h) → Holds l
sound (refuses p whatever n) h t = refuses_one p n t
sound (refuses p empty_G n) h t = refuses_one p n t []
sound (series k r w) h t = series_sound k r w h t
sound (order k b) h t = order_sound k h b t
sound (steps k a d b) h t = steps_sound k h a d b t
sound (closes k n a s d b) h t = closes_sound k h n a s d b t
sound (spends k n a d b) h t = spends_sound k h n a d b t
sound (period k n l e) h t = period_sound k h n l e t
sound (no_period k n) h t = no_period_sound k h n t
sound (unit by k c l e E F) h t = unit_sound k h by c l e E F t
sound (unit_norm k c l N) h t = norm_sound k h c l N t
sound (narrow k c l) h t = narrow_sound k h c l t
sound begun_book h t = empty_book_holds
sound (no_book n) h t = no_book_sound n t

pub all_sound : (ls : List (ℕ × Line)) (hs : List Hints) → T (decide_all ls hs) → AllHold ls
all_sound [] hs t = tt
all_sound (l ∷ ls) [] t = absurd t
all_sound ((n, l) ∷ ls) (h ∷ hs) t = (sound l h (and_l (decide l h) (decide_all ls hs) t), all_sound ls hs (and_r (decide l h) (decide_all ls hs) t))
