-- The limits of document 01, and the zeros beside a refusal.
--   most           the largest budget of a walk: "B is 0 to 1,000,000"
--   longest        the most coefficients of a row of a unit, and of a series
--   longest_six    the most numbers of a unit's six rows
--   blank          119 zeros: the record beside a refusal
--   Over m n r     r says whether n is over the limit m
--   SixRows n      n is a length of six equal rows of at most 4,096 numbers; NoSixRows n r: r says whether it is none
--   Six c l        the list l is six rows of c numbers each, c at most 4,096: E0, E1, E2, F0, F1, F2
-- In proofs/Limits.antt: `over_yes`, `over_no`, `six_of`, what an answer says; `over_unique`, `no_six_unique`, that the number settles it;
-- `six_at`, `six_none`, a list is six rows exactly where its length is one of theirs; `six_unique`, in one way.
use Rattle.std.specs.Prelude.{◌≡◌, Bool, true, false, List, ℕ, ◌*◌, ◌%◌, ◌≤◌, ◌<◌, length, replicate}

abbrev pub most : ℕ
most = 1000000

abbrev pub longest : ℕ
longest = 4096

-- 6 · 4,096
abbrev pub longest_six : ℕ
longest_six = 24576

abbrev pub blank : List ℕ
blank = replicate 119 0

abbrev pub Over : ℕ → ℕ → Bool → Type 0
Over m n true = m < n
Over m n false = n ≤ m

abbrev pub SixRows : ℕ → Type 0
SixRows n = (n % 6 ≡ 0) × (n ≤ longest_six)

abbrev pub NoSixRows : ℕ → Bool → Type 0
NoSixRows n true = SixRows n → ⊥
NoSixRows n false = SixRows n

pub record Six (c : ℕ) (l : List ℕ) : Type 0 where
  pub room : c ≤ longest
  pub whole : length l ≡ 6 * c
