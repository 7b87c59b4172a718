-- Bytes kept behind those that are pending: places counted to one more than the slice holds.
--   carried_more   a text byte by byte
use mathlib.Core.Path.{subst}
use mathlib.Core.List.{List, [], ◌∷◌}
use Prim.Native.Nat.{ℕ, ◌+◌, ◌<◌}
use native.Mathlib.Omega.{arith}
use lib.ListN.{length, get_or, take}
use Rattle.base_lists.specs.Pieces.{Placed}
use Rattle.base_lists.proofs.Puts.{placed_same, placed_more}

pub carried_more : (s : List ℕ) (i : ℕ) {d : List ℕ} {at r : ℕ} {d' : List ℕ} {q : ℕ} {e : List ℕ} → i < length s
    → Placed (length d + 1) d at (take i s) r d' → Placed (length d' + 1) d' r (get_or s i 0 ∷ []) q e
    → Placed (length d + 1) d at (take (i + 1) s) q e
carried_more s i {d} {r = r} {d'} {q} {e} h a b =
    placed_more (length d + 1) s i (omega arith) h a (subst (λ (n : ℕ). Placed (n + 1) d' r (get_or s i 0 ∷ []) q e) (placed_same a) b)
