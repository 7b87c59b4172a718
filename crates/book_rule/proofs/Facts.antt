-- The code's tests against the definitions: the rule of an E list, and of a list that was read.
use mathlib.Core.Path.{◌≡◌, sym, ◌∙◌, subst}
use mathlib.Core.Logic.{◌≢◌}
use mathlib.Core.Bool.{Bool}
use mathlib.Core.List.{List}
use Prim.Native.Nat.{ℕ, suc, ◌+◌, ◌-◌, ◌*◌, ◌<◌, ◌≤◌}
use native.Mathlib.Omega.{arith}
use lib.ListN.{length, get_or, take}
use Rattle.base_lists.specs.Pieces.{Written}
use Rattle.base_lists.specs.Coefficients.{Coefficients, ListLength}
use Rattle.base_lists.proofs.Coefs.{list_degree}
use Rattle.base_lists.proofs.Puts.{front_is}
use Rattle.book_bytes.specs.Bytes.{u2}
use Rattle.base_answers.specs.Decides.{Decides}
use Rattle.book_bytes.proofs.Lists.{length_list}
use Rattle.book_body.specs.Body.{UnitList, First, FirstList, list_at}

-- ---- a list's rule
pub row_short : (s : List ℕ) (k n p : ℕ) → n ≡ u2 s (2 + 2 * k) → 4096 < n → UnitList p (list_at s k) → ⊥
row_short s k n p m e r = let a : length (list_at s k) ≤ 4096 = r.short in let b : length (list_at s k) ≡ u2 s (2 + 2 * k) = length_list 16 2 s k in omega arith

pub list_unit : (p : ℕ) (l : List ℕ) (n : ℕ) → ListLength 4096 p l n → n ≢ 0 → UnitList p l
list_unit p l n h z =
    let d = list_degree h z in
    subst (Coefficients 4096 p l) (let e : length l ≡ suc (n - 1) = d.whole in let o : n - 1 ≡ length l - 1 = omega arith in o) d

-- ---- the rule of E0
pub first_some : (s : List ℕ) → UnitList (u2 s 0) (list_at s 2) → 0 < u2 s 6
first_some s r = let a : length (list_at s 2) ≡ suc (length (list_at s 2) - 1) = r.whole in let b : length (list_at s 2) ≡ u2 s 6 = length_list 16 2 s 2 in omega arith

pub first_decided : (s : List ℕ) (n top : ℕ) (b : Bool) → n ≡ u2 s 6 → top ≡ get_or (list_at s 2) (n - 1) 0 → Decides b (First n top) → Decides b (FirstList (list_at s 2))
first_decided s n top b e f w =
    let l : n ≡ length (list_at s 2) = e ∙ sym (length_list 16 2 s 2) in
    subst (λ (k : ℕ). Decides b (First k (get_or (list_at s 2) (k - 1) 0))) l (subst (λ (x : ℕ). Decides b (First n x)) f w)

-- ---- a list as it was read
module _ (s : List ℕ) (k : ℕ) (d d' : List ℕ) (r : ℕ) (h : u2 s (2 + 2 * k) ≤ length d) (q : Written d 0 (list_at s k) (u2 s (2 + 2 * k)) r d') where
  pub row_decided : (p : ℕ) (b : Bool) → p ≡ u2 s 0 → Decides b (UnitList p (take r d')) → Decides b (UnitList (u2 s 0) (list_at s k))
  row_decided p b e w = subst (λ (x : ℕ). Decides b (UnitList x (list_at s k))) e (subst (λ (l : List ℕ). Decides b (UnitList p l)) (front_is q h) w)
