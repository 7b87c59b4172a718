-- Lists as callers give them, and the table of refusals.
--   degree_padded, padded_degree   `Degree` of the list that l stands for is exactly `Padded`
--   three_padded, padded_three     refusal 3 of the list that l stands for comes exactly for `NoPadded`
--   accepted_stands                the lists of an accepted field stand for themselves
--   front_accepted                 the fronts that two lists stand for are accepted where the lists that they stand for are
--   unpad_again, unpad_zeros       of crate base_lists, at 32 entries
use mathlib.Core.Path.{◌≡◌}
use mathlib.Core.List.{List, ◌++◌}
use Prim.Native.Nat.{ℕ, ◌+◌, ◌≤◌, ◌<◌}
use native.Mathlib.Omega.{arith}
use lib.ListN.{length, take, replicate}
use Rattle.base_lists.proofs.Paddings as lists
use Rattle.field_open.specs.Refusal.{Degree, Fault3, Accepted}
use Rattle.field_open.specs.Padding.{entries, unpad, Padded, NoPadded, Unpadded}

module _ {p : ℕ} (pos : 0 < p) (l : List ℕ) where
  pub degree_padded : {d : ℕ} → Degree p (unpad l) d → Padded p l d
  degree_padded = lists.list_padded pos

  pub padded_degree : {d : ℕ} → Padded p l d → Degree p (unpad l) d
  padded_degree = lists.padded_list

  pub three_padded : Fault3 p (unpad l) → NoPadded p l
  three_padded f = lists.not_padded l f

  pub padded_three : NoPadded p l → Fault3 p (unpad l)
  padded_three h d c = lists.no_padded l h d (degree_padded c)

pub accepted_stands : {p : ℕ} {G H : List ℕ} → Accepted p G H → (unpad G ≡ G) × (unpad H ≡ H)
accepted_stands A = (lists.unpad_list (omega arith) A.list_g, lists.unpad_list (omega arith) A.list_h)

pub front_accepted : {p m n : ℕ} {G H : List ℕ} → Unpadded G m → Unpadded H n → Accepted p (unpad G) (unpad H) → Accepted p (take m G) (take n H)
front_accepted {p} a b = lists.unfronts (Accepted p) a b

pub unpad_again : (l : List ℕ) → unpad (unpad l) ≡ unpad l
unpad_again = lists.unpad_again entries

pub unpad_zeros : (l : List ℕ) (k : ℕ) → length l + k ≤ entries → unpad (l ++ replicate k 0) ≡ unpad l
unpad_zeros = lists.unpad_zeros entries
