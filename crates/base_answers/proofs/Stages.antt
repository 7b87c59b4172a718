-- The rows of a table of refusals, one after the other.
--   stage_unique   two numbers that meet a row are equal, where those that meet the rows below are
--   end_unique     two numbers after the last row are equal
--   stage_low      a number that meets a row is at most b, where the row's number and those of the rows below are
--   later, past    the rows below a row, and what an answer that is not a row's number says of it
--   stage_carry    a row over another fault that is there exactly when the first is
-- The last four are over types and not over `Stage`, so that every argument is found.
use mathlib.Core.Path.{◌≡◌, sym, ◌∙◌}
use mathlib.Core.Logic.{◌≢◌, ◌⊎◌, inl, inr}
use Prim.Native.Nat.{ℕ, ◌≤◌}
use native.Mathlib.Omega.{arith}
use Rattle.base_answers.specs.Stage.{Stage, End}

pub stage_unique : (k : ℕ) (Fault : Type 0) (below : ℕ → Type 0) → ((m n : ℕ) → below m → below n → m ≡ n)
    → (m n : ℕ) → Stage k Fault below m → Stage k Fault below n → m ≡ n
stage_unique k Fault below u m n (inl a) (inl b) = a.1 ∙ sym b.1
stage_unique k Fault below u m n (inl a) (inr b) = absurd (b.0 a.0)
stage_unique k Fault below u m n (inr a) (inl b) = absurd (a.0 b.0)
stage_unique k Fault below u m n (inr a) (inr b) = u m n a.1 b.1

pub end_unique : (m n : ℕ) → End m → End n → m ≡ n
end_unique m n a b = a ∙ sym b

pub stage_low : {A E N : Type 0} {b n k : ℕ} → k ≤ b → (N → n ≤ b) → (A × (n ≡ k)) ⊎ (E × N) → n ≤ b
stage_low l f (inl (a, e)) = omega arith
stage_low l f (inr (a, h)) = f h

pub later : {A E N M : Type 0} → (N → M) → A ⊎ (E × N) → A ⊎ (E × M)
later f (inl a) = inl a
later f (inr a) = inr (a.0, f a.1)

pub past : {A E N : Type 0} {n k : ℕ} → n ≢ k → (A × (n ≡ k)) ⊎ (E × N) → E × N
past f (inl a) = absurd (f a.1)
past f (inr a) = a

pub stage_carry : {A B N M : Type 0} {n k : ℕ} → (A → B) → (B → A) → (N → M) → (A × (n ≡ k)) ⊎ ((A → ⊥) × N) → (B × (n ≡ k)) ⊎ ((B → ⊥) × M)
stage_carry f g h (inl (a, e)) = inl (f a, e)
stage_carry f g h (inr (a, e)) = inr (λ b. a (g b), h e)
