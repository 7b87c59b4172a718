-- A walk that spent its budget and is taken up again gives what one long walk gives.
--   open_then closing_then                of any chain
--   reaches_then stays_then closes_then   of records, whatever the budgets
--   taken_up                              of answers: a walk refused with 10, and the walk from where it stopped, are the long walk
use mathlib.Core.Path.{◌≡◌, sym, ap, ◌∙◌}
use mathlib.Core.Logic.{◌≢◌}
use mathlib.Core.List.{List}
use Prim.Native.Nat.{ℕ, ◌+◌, ◌-◌, ◌≤◌, ◌<◌}
use native.Mathlib.Omega.{arith}
use native.Mathlib.Decide.{dec_le}
use Rattle.math_valued.specs.Polynomial.{polys}
use Rattle.math_ideals.specs.Setting.{Setting}
use Rattle.math_ideals.specs.Ideal.{Basis}
use Rattle.math_ideals.specs.Basis.{Good}
use Rattle.math_chain.specs.Chain.{Chain, Closing, Open}
use Rattle.math_chain.proofs.Walk.{same_chain, chain_then, prefix}
use Rattle.field_open.proofs.Stages.{refusal_unique, numbered}
use Rattle.basis_record.specs.Record.{setting, basis_of, IsRecord}
use Rattle.walk_chain.specs.Walk.{Reaches, StaysOpen, Closes, Spent, Goes, budget, no_record, closed, spent, Walks, WalkAnswer}
use Rattle.base_answers.specs.Limits.{most}

-- ---- of any chain
module _ (S : Setting) (B₀ B₁ : Basis S) (good : Good S B₀) {n d : ℕ} (c : Chain S B₀ n d B₁) (open-to : Open S B₀ n) where
  -- what a chain from B₁ shows of a count i is so of the count n + i from B₀
  later :
      (j m e : ℕ) (B : Basis S) → Chain S B₀ j e B → n < j → j ≤ n + m → Open S B₁ m →
      {k f : ℕ} {B₂ : Basis S} → Chain S B₁ k f B₂ → j ≤ n + k →
      B.U ≢ (polys S.𝓥).ops.𝟏
  later j m e B a l h none b r one =
      let i : ℕ = j - n in
      let (e', B', b', q) = prefix S B₁ b i (omega arith) in
      let (x, y) = same_chain S B₀ good a (chain_then S c b') (omega arith) in
      none i e' B' (omega arith) (omega arith) b' (ap (λ z. z.U) (sym y) ∙ one)

  pub open_then : {m f : ℕ} {B₂ : Basis S} → Chain S B₁ m f B₂ → Open S B₁ m → Open S B₀ (n + m)
  open_then {m} b o j e B l h a = go (dec_le j n)
    where
      go : Dec (j ≤ n) → B.U ≢ (polys S.𝓥).ops.𝟏
      go (yes k) = open-to j e B l k a
      go (no k) = later j m e B a (omega arith) h o b h

  pub closing_then : {s f : ℕ} {B₂ : Basis S} → Closing S B₁ s f B₂ → Closing S B₀ (n + s) (d + f) B₂
  closing_then {s} {f} {B₂} k = record {
    chain = chain_then S c k.chain;
    some = (let p : 1 ≤ s = k.some in omega arith);
    closed = k.closed;
    none = λ j e B l h a. go j e B l h a (dec_le j n);
  }
    where
      go : (j e : ℕ) (B : Basis S) → 1 ≤ j → j < n + s → Chain S B₀ j e B → Dec (j ≤ n) → B.U ≢ (polys S.𝓥).ops.𝟏
      go j e B l h a (yes q) = open-to j e B l q a
      go j e B l h a (no q) =
          let p : 1 ≤ s = k.some in
          later j (s - 1) e B a (omega arith) (omega arith) (λ i e' B' u v w. k.none i e' B' u (omega arith) w) k.chain (omega arith)

-- ---- of records
-- a chain from B that reaches B₁ with none of its counts closing, and what is reached from B₁; no budget comes in
module _ {p : ℕ} {G H B B₁ : List ℕ} {n d : ℕ} (to : Reaches p G H B n d B₁) where
  pub reaches_then : {m f : ℕ} {B₂ : List ℕ} → Reaches p G H B₁ m f B₂ → Reaches p G H B (n + m) (d + f) B₂
  reaches_then r = record { is_a_record = r.is_a_record; chain = λ A. chain_then (setting A) (to.chain A) (r.chain A) }

  module _ (is : IsRecord p G H B) (open-to : StaysOpen p G H B n) where
    pub stays_then : {m f : ℕ} {B₂ : List ℕ} → Reaches p G H B₁ m f B₂ → StaysOpen p G H B₁ m → StaysOpen p G H B (n + m)
    stays_then r o = λ A. open_then (setting A) (basis_of A B) (basis_of A B₁) (is.good A) (to.chain A) (open-to A) (r.chain A) (o A)

    pub closes_then : {m f : ℕ} {B₂ : List ℕ} → Closes p G H B₁ m f B₂ → Closes p G H B (n + m) (d + f) B₂
    closes_then k = record {
      is_a_record = k.is_a_record;
      closing = λ A. closing_then (setting A) (basis_of A B) (basis_of A B₁) (is.good A) (to.chain A) (open-to A) (k.closing A);
    }

-- ---- of answers
-- the answer to the long walk
abbrev pub joined : ℕ → WalkAnswer → WalkAnswer → WalkAnswer
joined n v w = record { refusal = w.refusal; steps = n + w.steps; sum = v.sum + w.sum; basis = w.basis }

module _ (p : ℕ) (G H : List ℕ) (n m : ℕ) (B : List ℕ) (v w : WalkAnswer) (within : n + m ≤ most) where
  -- 10 is the budget's
  was_spent : Goes p G H n B v → v.refusal ≡ 10 → IsRecord p G H B × Spent p G H n B v
  was_spent (budget l e) t = absurd (let q : 14 ≡ 10 = sym (ap (λ z. z.refusal) e) ∙ t in omega arith)
  was_spent (no_record l a e) t = absurd (let q : 9 ≡ 10 = sym (ap (λ z. z.refusal) e) ∙ t in omega arith)
  was_spent (closed l a e) t = absurd (let q : 0 ≡ 10 = sym e.number ∙ t in omega arith)
  was_spent (spent l a e) t = (a, e)

  goes_later : IsRecord p G H B → Spent p G H n B v → Goes p G H m v.basis w → Goes p G H (n + m) B (joined n v w)
  goes_later a s (budget l e) = absurd (omega arith)
  goes_later a s (no_record l b e) = absurd (b s.reaches.is_a_record)
  -- steps and degrees add up
  goes_later a s (closed l b e) = closed within a (record {
    within = (let k : w.steps ≤ m = e.within in omega arith);
    number = e.number;
    closes = closes_then s.reaches a s.none e.closes;
  })
  goes_later a s (spent l b e) = spent within a (record {
    number = e.number;
    all = ap (λ z. n + z) e.all;
    none = stays_then s.reaches a s.none e.reaches e.none;
    reaches = reaches_then s.reaches e.reaches;
  })

  -- "a walk refused with 10 returns B, the degree sum and the basis reached, so it can be taken up again"
  pub taken_up : Walks p G H n B v → v.refusal ≡ 10 → Walks p G H m v.basis w → Walks p G H (n + m) B (joined n v w)
  taken_up a t b = record {
    no = a.no;
    first = a.first;
    none = λ f. absurd (
        let l : a.no ≤ 8 = numbered p G H a.no a.first in
        let e : a.no ≡ 10 = sym (ap (λ z. z.refusal) (a.none f)) ∙ t in
        omega arith);
    goes = λ z.
        let (rec, sp) = was_spent (a.goes z) t in
        goes_later rec sp (b.goes (refusal_unique p G H b.no a.no b.first a.first ∙ z));
  }
