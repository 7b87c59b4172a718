-- Lists of 2-byte numbers that stand one after another: what the code reads of one.
use mathlib.Core.Path.{◌≡◌, refl, sym, ap, ◌∙◌}
use mathlib.Core.List.{List}
use Prim.Native.Nat.{ℕ, ◌+◌, ◌*◌, ◌<◌}
use native.Mathlib.Numerals.{add-one}
use lib.ListN.{length, get_or, drop}
use Rattle.book_bytes.specs.Bytes.{u2, list_start, list_at}
use Rattle.book_bytes.proofs.Read.{length_vals, at_list}

module _ (head from : ℕ) where
  pub list_start_more : (s : List ℕ) (i : ℕ) → list_start head from s (i + 1) ≡ list_start head from s i + 2 * u2 s (from + 2 * i)
  unfolding list_start
  list_start_more s i = rw add-one refl

  pub list_start_zero : (s : List ℕ) → list_start head from s 0 ≡ head
  unfolding list_start
  list_start_zero s = refl

  -- ---- one list
  pub length_list : (s : List ℕ) (k : ℕ) → length (list_at head from s k) ≡ u2 s (from + 2 * k)
  length_list s k = length_vals (u2 s (from + 2 * k)) (drop (list_start head from s k) s)

  pub list_at_lem : (s : List ℕ) (k j : ℕ) → j < u2 s (from + 2 * k) → get_or (list_at head from s k) j 0 ≡ u2 s (list_start head from s k + 2 * j)
  list_at_lem s k j h = at_list (u2 s (from + 2 * k)) s (list_start head from s k) j h

  -- the coefficient that the code reads is the list's
  pub list_read : (s : List ℕ) (k j at v : ℕ) → j < u2 s (from + 2 * k) → at ≡ list_start head from s k → v ≡ u2 s (at + 2 * j) → v ≡ get_or (list_at head from s k) j 0
  list_read s k j at v h e f = f ∙ ap (λ (x : ℕ). u2 s (x + 2 * j)) e ∙ sym (list_at_lem s k j h)
