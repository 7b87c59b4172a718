-- One answer to each walk, and walks that are taken up again.
use mathlib.Core.Path.{◌≡◌, refl, sym, ◌∙◌}
use mathlib.Core.List.{List}
use Prim.Native.Nat.{ℕ, ◌≤◌}
use native.Mathlib.Omega.{arith}
use Rattle.field_open.specs.Refusal.{Accepted}
use Rattle.field_open.proofs.Door.{door_unique}
use Rattle.math_ideals.specs.Ideal.{Basis}
use Rattle.math_chain.specs.Chain.{Chain, Closing, Open}
use Rattle.math_chain.proofs.Walk.{same_chain, closing_unique}
use Rattle.basis_record.specs.Record.{setting, basis_of, IsRecord}
use Rattle.basis_record.proofs.Unique.{basis_unique}
use Rattle.walk_chain.specs.Walk.{Reaches, Closes, StaysOpen, Closed, Spent, Goes, budget, no_record, closed, spent, Walks, WalkAnswer}

-- an answer is its four parts
walked_eq : (v w : WalkAnswer) → v.refusal ≡ w.refusal → v.steps ≡ w.steps → v.sum ≡ w.sum → v.basis ≡ w.basis → v ≡ w
walked_eq v w a b c d = λ i. record { refusal = a i; steps = b i; sum = c i; basis = d i }

module _ (p : ℕ) (G H : List ℕ) (A : Accepted p G H) (B : List ℕ) (is : IsRecord p G H B) where
  -- after a number of steps there is one record and one sum
  pub reaches_unique : {s s' d d' : ℕ} {B₁ B₂ : List ℕ} → s ≡ s' → Reaches p G H B s d B₁ → Reaches p G H B s' d' B₂ → (d ≡ d') × (B₁ ≡ B₂)
  reaches_unique {B₁ = B₁} {B₂ = B₂} e a b =
      let (x, y) = same_chain (setting A) (basis_of A B) (is.good A) (a.chain A) (b.chain A) e in
      (x, basis_unique A B₁ B₂ a.is_a_record b.is_a_record y)

  pub closes_unique : {s s' d d' : ℕ} {B₁ B₂ : List ℕ} → Closes p G H B s d B₁ → Closes p G H B s' d' B₂ → (s ≡ s') × (d ≡ d') × (B₁ ≡ B₂)
  closes_unique {B₁ = B₁} {B₂ = B₂} a b =
      let (x, y, z) = closing_unique (setting A) (basis_of A B) (is.good A) (a.closing A) (b.closing A) in
      (x, y, basis_unique A B₁ B₂ a.is_a_record b.is_a_record z)

  -- what closes within n does not stay open up to n
  pub not_both : {n s d : ℕ} {B₁ : List ℕ} → s ≤ n → Closes p G H B s d B₁ → StaysOpen p G H B n → ⊥
  not_both {B₁ = B₁} l c o =
      let k = c.closing A in
      o A _ _ (basis_of A B₁) k.some l k.chain k.closed

module _ (p : ℕ) (G H : List ℕ) (A : Accepted p G H) (n : ℕ) (B : List ℕ) where
  goes_unique : (v w : WalkAnswer) → Goes p G H n B v → Goes p G H n B w → v ≡ w
  goes_unique v w (budget l e) (budget m f) = e ∙ sym f
  goes_unique v w (budget l e) (no_record m a f) = absurd (omega arith)
  goes_unique v w (budget l e) (closed m a f) = absurd (omega arith)
  goes_unique v w (budget l e) (spent m a f) = absurd (omega arith)
  goes_unique v w (no_record l a e) (budget m f) = absurd (omega arith)
  goes_unique v w (no_record l a e) (no_record m b f) = e ∙ sym f
  goes_unique v w (no_record l a e) (closed m b f) = absurd (a b)
  goes_unique v w (no_record l a e) (spent m b f) = absurd (a b)
  goes_unique v w (closed l a e) (budget m f) = absurd (omega arith)
  goes_unique v w (closed l a e) (no_record m b f) = absurd (b a)
  goes_unique v w (closed l a e) (closed m b f) =
      let (x, y, z) = closes_unique p G H A B a e.closes f.closes in
      walked_eq v w (e.number ∙ sym f.number) x y z
  goes_unique v w (closed l a e) (spent m b f) = absurd (not_both p G H A B a e.within e.closes f.none)
  goes_unique v w (spent l a e) (budget m f) = absurd (omega arith)
  goes_unique v w (spent l a e) (no_record m b f) = absurd (b a)
  goes_unique v w (spent l a e) (closed m b f) = absurd (not_both p G H A B a f.within f.closes e.none)
  goes_unique v w (spent l a e) (spent m b f) =
      let (y, z) = reaches_unique p G H A B a refl e.reaches f.reaches in
      walked_eq v w (e.number ∙ sym f.number) (e.all ∙ sym f.all) y z

-- two answers to one walk are equal
pub walks_unique : (p : ℕ) (G H : List ℕ) (n : ℕ) (B : List ℕ) (v w : WalkAnswer) → Walks p G H n B v → Walks p G H n B w → v ≡ w
walks_unique p G H n B v w = door_unique (λ k e f. e ∙ sym f) (λ A. goes_unique p G H A n B v w)
