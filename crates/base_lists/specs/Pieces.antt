-- Pieces of a list of numbers, and a piece put into a list.
--   piece at n l       the n numbers of l from place `at` on; fewer where l ends before
--   between f t l      the numbers of l from place f up to place t: what a slice l[f..t] holds
--   tab n f            the list f 0, f 1, .., f (n − 1)
--   cut at n l         n numbers from place `at` of l on, 0 past its end: the same as piece where l reaches so far (piece-cut)
--   With d at x d'     d' is d with the piece x from place `at` on, as far as d reaches
--   Placed n d at x r d'    the same, and r is the place after x, counted up to n
--   Put d at x r d'         the same, counted up to the end of d
--   Written d at x k r d'   the same for a piece of k numbers: r is `at` + k
-- Laws: proofs/Tabs, proofs/Pieces, proofs/Puts (one piece after another; what stands where; two outcomes are equal).
use Rattle.std.specs.Prelude.{◌≡◌, List, [], ◌∷◌, ℕ, zero, suc, ◌+◌, ◌-◌, min, max, length, get_or, take, drop}
use Rattle.std.proofs.lemmas.List.Edits.{sets}

abbrev pub piece : ℕ → ℕ → List ℕ → List ℕ
piece at n l = take n (drop at l)

abbrev pub between : ℕ → ℕ → List ℕ → List ℕ
between f t l = piece f (t - f) l

abbrev pub tab_from : ℕ → ℕ → (ℕ → ℕ) → List ℕ
tab_from i zero f = []
tab_from i (suc n) f = f i ∷ tab_from (suc i) n f

unfoldable pub tab : ℕ → (ℕ → ℕ) → List ℕ
tab n f = tab_from 0 n f

abbrev pub cut : ℕ → ℕ → List ℕ → List ℕ
cut at n l = tab n (λ i. get_or l (at + i) 0)

abbrev pub With : List ℕ → ℕ → List ℕ → List ℕ → Type 0
With d at x d' = d' ≡ sets d at x

pub record Placed (n : ℕ) (d : List ℕ) (at : ℕ) (x : List ℕ) (r : ℕ) (d' : List ℕ) : Type 0 where
  pub next : r ≡ max at (min (at + length x) n)
  pub done : With d at x d'

abbrev pub Put : List ℕ → ℕ → List ℕ → ℕ → List ℕ → Type 0
Put d at x r d' = Placed (length d) d at x r d'

pub record Written (d : List ℕ) (at : ℕ) (x : List ℕ) (k r : ℕ) (d' : List ℕ) : Type 0 where
  pub next : r ≡ at + k
  pub size : length x ≡ k
  pub done : With d at x d'
  pub same : length d' ≡ length d
