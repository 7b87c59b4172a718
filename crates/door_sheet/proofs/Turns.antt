-- The list after i turns of the sheet's loop: the first i records are advanced, and the rest are as they were.
--     upto_length     it has as many records as it had
--     upto_next       a store of what record i advances to makes it so for i + 1
--     upto_all        with every record taken it is `Each`
use mathlib.Core.Path.{◌≡◌, refl, sym, ap, subst}
use mathlib.Core.List.{List, [], ◌∷◌, cons≢nil}
use Prim.Native.Nat.{ℕ, zero, suc, ◌<◌}
use native.Mathlib.Nat.{not-suc-le-zero, le_of_suc-le-suc}
use lib.ListN.{length, get_or, set}
use Rattle.walk_record.specs.declared.WalkRecord.{WalkRecord}
use Rattle.door_record.specs.Advance.{Advances}
use Rattle.door_sheet.specs.Sheet.{Each}

abbrev Rs : Type 0
Rs = List WalkRecord

abbrev pub Upto : ℕ → ℕ → Rs → Rs → Type 0
Upto b zero rs os = os ≡ rs
Upto b (suc i) [] os = ⊥
Upto b (suc i) (r ∷ rs) [] = ⊥
Upto b (suc i) (r ∷ rs) (o ∷ os) = Advances b r o × Upto b i rs os

pub upto_length : (b i : ℕ) (rs os : Rs) → Upto b i rs os → length os ≡ length rs
upto_length b zero rs os e = ap length e
upto_length b (suc i) [] os u = absurd u
upto_length b (suc i) (r ∷ rs) [] u = absurd u
upto_length b (suc i) (r ∷ rs) (o ∷ os) u = ap suc (upto_length b i rs os u.1)

pub upto_next : (b i : ℕ) (rs os : Rs) (d x : WalkRecord) → Upto b i rs os → i < length rs → Advances b (get_or os i d) x → Upto b (suc i) rs (set os i x)
upto_next b i [] os d x u l a = absurd (not-suc-le-zero l)
upto_next b zero (r ∷ rs) os d x e l a = subst (λ (ys : Rs). Advances b (get_or ys 0 d) x → Upto b 1 (r ∷ rs) (set ys 0 x)) (sym e) (λ a'. (a', refl)) a
upto_next b (suc i) (r ∷ rs) [] d x u l a = absurd u
upto_next b (suc i) (r ∷ rs) (o ∷ os) d x u l a = (u.0, upto_next b i rs os d x u.1 (le_of_suc-le-suc l) a)

pub upto_all : (b : ℕ) (rs os : Rs) → Upto b (length rs) rs os → Each b rs os
upto_all b [] [] u = tt
upto_all b [] (o ∷ os) u = absurd (cons≢nil u)
upto_all b (r ∷ rs) [] u = absurd u
upto_all b (r ∷ rs) (o ∷ os) u = (u.0, upto_all b rs os u.1)
