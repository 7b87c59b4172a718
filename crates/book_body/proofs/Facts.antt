-- A list read out of a body.
use mathlib.Core.Path.{sym, ap}
use mathlib.Core.List.{List}
use Prim.Native.Nat.{ℕ, ◌+◌, ◌*◌, ◌<◌, ◌≤◌}
use native.Mathlib.Omega.{arith}
use lib.ListN.{length}
use Rattle.base_lists.specs.Pieces.{Written}
use Rattle.base_lists.proofs.Puts.{front_long, front_whole}
use Rattle.book_bytes.specs.Bytes.{u2}
use Rattle.book_body.specs.Body.{list_at}
use Rattle.base_answers.specs.Said.{passed}
use Rattle.book_body.specs.Code.{ListTells, read}

module _ (s : List ℕ) (k : ℕ) (d d' : List ℕ) (r : ℕ) (h : u2 s (2 + 2 * k) ≤ length d) (q : Written d 0 (list_at s k) (u2 s (2 + 2 * k)) r d') where
  pub list_got : k < 5 → ListTells s k d (passed r) d'
  list_got l = read l (omega (arith, q.size)) (ap passed (sym (front_long q h))) (front_whole q h)
