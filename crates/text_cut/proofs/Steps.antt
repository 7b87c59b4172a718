-- One step of `next_line`, in the terms of its contract.
--   carried_up_to    what is carried up to the newline, or to the end
--   cut_nothing     past the end nothing is carried
--   whole_step, broken_step   what a caller of `next_line` learns of places
--   cut_unique      two outcomes are equal
use mathlib.Core.Path.{◌≡◌, sym, ap, ◌∙◌, subst}
use mathlib.Core.List.{List}
use Prim.Native.Nat.{ℕ, ◌+◌, ◌-◌, ◌≤◌, ◌<◌}
use native.Mathlib.Omega.{arith}
use lib.ListN.{length, take, drop}
use Rattle.text_put.specs.Print.{newline}
use Rattle.base_lists.proofs.Puts.{placed_none, placed_same, placed_unique}
use Rattle.text_cut.specs.Tells.{Carried, up_to, CutAt, CutTells}
use Rattle.text_cut.specs.declared.Step.{Step}
use Rattle.text_cut.specs.declared.Step.TheVariants.{Whole, Broken, Pending}
use Rattle.text_cut.proofs.Cuts.{piece, until_past}

pub carried_up_to : (k : List ℕ) (n : ℕ) (s : List ℕ) (at e m : ℕ) (k' : List ℕ) → e ≡ at + length (up_to s at)
    → Carried k n (take (e - at) (drop at s)) m k' → Carried k n (up_to s at) m k'
carried_up_to k n s at e m k' q a = subst (λ (x : List ℕ). Carried k n x m k') (sym (piece newline s at e q)) a

pub cut_nothing : (k : List ℕ) (n : ℕ) (s : List ℕ) (at : ℕ) → length s ≤ at → CutTells k n s at (Pending n) k
cut_nothing k n s at h =
    (subst (λ (x : List ℕ). Carried k n x n k) (sym (until_past newline s at h)) (placed_none (length k + 1) k n), omega arith)

pub cut_at : (k : List ℕ) (n : ℕ) (s : List ℕ) (at e m : ℕ) (k' : List ℕ) → e ≡ at + length (up_to s at)
    → Carried k n (take (e - at) (drop at s)) m k' → CutAt k n s at m (e + 1) k'
cut_at k n s at e m k' q a = record { carried = carried_up_to k n s at e m k' q a; place = ap (λ (z : ℕ). z + 1) q }

-- ---- what a caller learns: a whole line is within the slice, and a step that ends a line goes forward
pub whole_step : (k : List ℕ) (n : ℕ) (s : List ℕ) (at : ℕ) (k' : List ℕ) {r : Step} {m next : ℕ} → r ≡ Whole m next → CutTells k n s at r k'
    → (m ≤ length k') × (at < next) × (next ≤ length s)
whole_step k n s at k' {m = m} {next} e t =
    let q : CutTells k n s at (Whole m next) k' = subst (λ (z : Step). CutTells k n s at z k') e t in
    let l : length k' ≡ length k = placed_same q.0.carried in
    let p : next ≡ at + length (up_to s at) + 1 = q.0.place in
    let b : m ≤ length k = q.2 in
    (omega arith, omega arith, q.1)

pub broken_step : (k : List ℕ) (n : ℕ) (s : List ℕ) (at : ℕ) (k' : List ℕ) {r : Step} {next : ℕ} → r ≡ Broken next → CutTells k n s at r k'
    → (at < next) × (next ≤ length s)
broken_step k n s at k' {next = next} e t =
    let q : CutTells k n s at (Broken next) k' = subst (λ (z : Step). CutTells k n s at z k') e t in
    let p : next ≡ at + length (up_to s at) + 1 = q.1.place in
    (omega arith, q.2)

-- ---- one outcome
same_place : {k : List ℕ} {n : ℕ} {s : List ℕ} {at m next : ℕ} {k' : List ℕ} {m₂ next₂ : ℕ} {k₂ : List ℕ}
    → CutAt k n s at m next k' → CutAt k n s at m₂ next₂ k₂ → (m ≡ m₂) × (next ≡ next₂) × (k' ≡ k₂)
same_place a b =
    let u = placed_unique a.carried b.carried in
    (u.0, a.place ∙ sym b.place, u.1)

pub cut_unique : (k : List ℕ) (n : ℕ) (s : List ℕ) (at : ℕ) (r r₂ : Step) (k' k₂ : List ℕ)
    → CutTells k n s at r k' → CutTells k n s at r₂ k₂ → (r ≡ r₂) × (k' ≡ k₂)
cut_unique k n s at (Whole m e) (Whole m₂ e₂) k' k₂ a b =
    let u = same_place a.0 b.0 in
    let p = u.0 in let q = u.1 in (cc, u.2)
cut_unique k n s at (Whole m e) (Broken e₂) k' k₂ a b =
    absurd (let p : m ≡ b.0 = (same_place a.0 b.1).0 in let x : m ≤ length k = a.2 in let y : length k < b.0 = b.3 in omega arith)
cut_unique k n s at (Whole m e) (Pending m₂) k' k₂ a b =
    absurd (let p : e ≡ at + length (up_to s at) + 1 = a.0.place in let x : e ≤ length s = a.1 in let y : length s ≤ at + length (up_to s at) = b.1 in omega arith)
cut_unique k n s at (Broken e) (Whole m₂ e₂) k' k₂ a b =
    absurd (let p : a.0 ≡ m₂ = (same_place a.1 b.0).0 in let x : m₂ ≤ length k = b.2 in let y : length k < a.0 = a.3 in omega arith)
cut_unique k n s at (Broken e) (Broken e₂) k' k₂ a b =
    let u = same_place a.1 b.1 in
    let q = u.1 in (cc, u.2)
cut_unique k n s at (Broken e) (Pending m₂) k' k₂ a b =
    absurd (let p : e ≡ at + length (up_to s at) + 1 = a.1.place in let x : e ≤ length s = a.2 in let y : length s ≤ at + length (up_to s at) = b.1 in omega arith)
cut_unique k n s at (Pending m) (Whole m₂ e₂) k' k₂ a b =
    absurd (let p : e₂ ≡ at + length (up_to s at) + 1 = b.0.place in let x : e₂ ≤ length s = b.1 in let y : length s ≤ at + length (up_to s at) = a.1 in omega arith)
cut_unique k n s at (Pending m) (Broken e₂) k' k₂ a b =
    absurd (let p : e₂ ≡ at + length (up_to s at) + 1 = b.1.place in let x : e₂ ≤ length s = b.2 in let y : length s ≤ at + length (up_to s at) = a.1 in omega arith)
cut_unique k n s at (Pending m) (Pending m₂) k' k₂ a b =
    let u = placed_unique a.0 b.0 in
    let p = u.0 in (cc, u.1)
