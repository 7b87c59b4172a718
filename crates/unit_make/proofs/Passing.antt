-- The product of the m passed, step by step.
--   next_exact    E M = U E' for the product E' of one step more, whose rows have as many coefficients as its degree and one
--   along_start   no step: the rows hold 1
--   stays_below   the degree sum on the way is below c
--   along_more    one step more
--   along_end     after all steps the record is the last one and the degree sum is the closing's
use mathlib.Core.Path.{◌≡◌, refl, sym, ap, ◌∙◌, subst}
use mathlib.Core.List.{List}
use Prim.Native.Nat.{ℕ, suc, ◌+◌, ◌*◌, ◌-◌, ◌<◌, ◌≤◌}
use native.Mathlib.Omega.{arith}
use native.Mathlib.Decide.{dec_lt}
use lib.ListN.{length, get_or, replicate, set, length-set, length-replicate}
use lib.Seq.{get_or-set_same, get_or-set_other}
use Rattle.math_rows.specs.Reading.{Reading}
use Rattle.math_rows.specs.Made.{reading}
use Rattle.math_rows.specs.Row.{row}
use Rattle.math_rows.proofs.Tab.{length_tab, at_tab, past_tab, zeros_at}
use Rattle.math_rows.proofs.Floors.{zero_row}
use Rattle.field_open.specs.Refusal.{Accepted}
use Rattle.math_ideals.specs.Setting.{Setting}
use Rattle.math_ideals.specs.Element.{O, sc}
use Rattle.math_ideals.specs.Ideal.{Basis}
use Rattle.math_ideals.specs.Basis.{Good}
use Rattle.math_ideals.specs.Next.{Next, Start}
use Rattle.math_chain.specs.Chain.{Degree, Chain, here, then, tops, bottoms, Product}
use Rattle.math_chain.proofs.Walk.{same_chain, prefix}
use Rattle.math_chain.proofs.Passed.{Passed, passed, over_step, next_product, product_unique}
use Rattle.math_chain.specs.Unit.{Fit}
use Rattle.math_chain.proofs.Rows.{product_rows}
use Rattle.basis_record.specs.Record.{setting, basis_of}
use Rattle.basis_record.proofs.Unique.{basis_unique}
use Rattle.basis_field.specs.First.{IsFirst}
use Rattle.walk_chain.specs.Walk.{Closes}
use Rattle.walk_closed.proofs.One.{one_of}
use Rattle.step_next.specs.Steps.{Steps}
use Rattle.step_next.specs.declared.StepTaken.{StepTaken}
use Rattle.unit_rows.specs.Six.{cut}
use Rattle.unit_finish.specs.Rows.{six}
use Rattle.unit_finish.specs.Finish.{Along}
use Rattle.unit_finish.proofs.Stored.{six_path}

-- ---- of any chain
module _ (S : Setting) (B₀ : Basis S) (st : Start S B₀) where
  open (O S).ops use {mul as ◌⊗◌}

  infixl 70 ◌⊗◌
  pub record Exact (B : Basis S) (E : (O S).El) {i m : ℕ} {B' : Basis S} (c : Chain S B₀ i m B') : Type 0 where
    pub E' : (O S).El
    pub eq : E ⊗ B.M ≡ sc S B.U ⊗ E'
    pub fit : Fit S (suc m) E'
    pub product : Product S c E'

  pub next_exact : {i d : ℕ} {B : Basis S} (c : Chain S B₀ i d B) (E : (O S).El) → Product S c E → (n : ℕ) (B' : Basis S) (deg : Degree S B n) (next : Next S B B') (good : Good S B') → Exact B E (then n B' c deg next good)
  unfolding tops bottoms
  next_exact {d = d} {B} c E h n B' deg next good =
      let p : Passed S c = passed S B₀ st c in
      let same : p.E ≡ E = product_unique S c p.E E p.product h in
      let (E', e, over) = over_step S B B' p.E deg.U_deg p.over next in
      let h' : Product S (then n B' c deg next good) E' = next_product S c p.E E' p.product e in
      record {
        E' = E';
        eq = subst (λ v. v ⊗ B.M ≡ sc S B.U ⊗ E') same e;
        fit = subst (Fit S (suc (d + n))) (product_unique S (then n B' c deg next good) (passed S B₀ st (then n B' c deg next good)).E E' (passed S B₀ st (then n B' c deg next good)).product h') (product_rows S B₀ st (then n B' c deg next good)).0;
        product = h';
      }

-- ---- of rows
-- 1 and zeros
abbrev pub begun : ℕ → List ℕ
begun n = set (replicate n 0) 0 1

begun_above : (n i : ℕ) → 0 < i → get_or (begun n) i 0 ≡ 0
begun_above n i l = get_or-set_other (replicate n 0) 0 i 1 0 (λ e. absurd (omega arith)) ∙ zeros_at n i

begun_first : (n : ℕ) → 0 < n → get_or (begun n) 0 0 ≡ 1
begun_first n l = get_or-set_same (replicate n 0) 0 1 0 (let e : ◌≡◌ {A = ℕ} (length (replicate {A = ℕ} n 0)) n = length-replicate n 0 in omega arith)

cut_above : (at c : ℕ) (l : List ℕ) (i : ℕ) → get_or l (at + i) 0 ≡ 0 → get_or (cut at c l) i 0 ≡ 0
cut_above at c l i h = elim (dec_lt i c) [
  | yes u ↦ at_tab c (λ i. get_or l (at + i) 0) i u ∙ h
  | no u ↦ past_tab c (λ i. get_or l (at + i) 0) i (omega arith)
]

module _ {p : ℕ} (ρ : Reading p) (n c : ℕ) (pos : 0 < c) where
  -- the row at 0 holds 1 ..
  begun_one : 0 < n → row ρ (cut 0 c (begun n)) ≡ ρ.𝓥.L.ops.𝟏
  begun_one l =
      let first : get_or (cut 0 c (begun n)) 0 0 ≡ 1 = at_tab c (λ i. get_or (begun n) (0 + i) 0) 0 pos ∙ begun_first n l in
      one_of ρ (cut 0 c (begun n)) (record {
        fits = (let e : length (cut 0 c (begun n)) ≡ c = length_tab c (λ i. get_or (begun n) (0 + i) 0) in omega arith);
        above = λ i u. cut_above 0 c (begun n) i (begun_above n (0 + i) (omega arith));
        top = λ u e. absurd (let f : get_or (cut 0 c (begun n)) 0 0 ≡ 0 = e in omega arith);
      }) first

  -- .. and those above hold 0
  begun_zero : (at : ℕ) → 0 < at → row ρ (cut at c (begun n)) ≡ ρ.𝓥.L.ops.𝟎
  begun_zero at l = zero_row ρ (cut at c (begun n)) (record { fits = omega arith; above = λ i u. cut_above at c (begun n) i (begun_above n (at + i) (omega arith)); top = λ u. absurd (omega arith) })

module _ (p : ℕ) (G H B : List ℕ) (first : IsFirst p G H B) (c : ℕ) where
  pub along_start : 1 < p → 0 < c → (rows : List ℕ) → rows ≡ begun (6 * c) → Along p G H B c 0 0 B rows
  unfolding tops bottoms
  along_start big pos rows e = subst (λ r. Along p G H B c 0 0 B r) (sym e) (record {
    is_a_record = first.is_a_record;
    whole = length-set (replicate (6 * c) 0) 0 1 ∙ length-replicate (6 * c) 0;
    each = λ j. elim (dec_lt 0 j) [
      | yes u ↦ (let o : get_or (begun (6 * c)) j 0 ≡ 0 = begun_above (6 * c) j u in omega arith)
      | no u ↦ (let z : j ≡ 0 = omega arith in let o : get_or (begun (6 * c)) j 0 ≡ 1 = ap (λ k. get_or (begun (6 * c)) k 0) z ∙ begun_first (6 * c) (omega arith) in omega arith)
    ];
    rest = λ j u. begun_above (6 * c) j (omega arith);
    product = λ A. let S = setting A in let ρ = reading p A.prime in (
      here,
      ap (λ v. (O S).ops.mul (O S).ops.𝟏 v) (six_path A c 0 (begun (6 * c)) (O S).ops.𝟏 (begun_one ρ (6 * c) c pos (omega arith)) (begun_zero ρ (6 * c) c pos (0 + c) (omega arith)) (begun_zero ρ (6 * c) c pos (0 + c + c) (omega arith)))
          ∙ (O S).laws.mul-one (O S).ops.𝟏,
    );
  })

  module _ {l all : ℕ} {last : List ℕ} (closes : Closes p G H B l all last) where
    -- the degree sum on the way
    pub stays_below : Accepted p G H → {i d : ℕ} {b rows : List ℕ} → i ≤ l → Along p G H B c i d b rows → d ≤ all
    stays_below A {i} {d} u h =
        let S = setting A in
        let (n, B', k, w) = prefix S (basis_of A B) (closes.closing A).chain i u in
        let (e, f) = same_chain S (basis_of A B) (first.start A).good (h.product A).0 k refl in
        omega arith

    pub step_below : Accepted p G H → {i d : ℕ} {b rows : List ℕ} → i < l → Along p G H B c i d b rows → (o : StepTaken) → Steps p G H b o → d + o.degree ≤ all
    step_below A {i} {d} {b} u h o s =
        let S = setting A in
        let (n, B', k, w) = prefix S (basis_of A B) (closes.closing A).chain (suc i) (omega arith) in
        let (e, f) = same_chain S (basis_of A B) (first.start A).good (then o.degree (basis_of A o.basis) (h.product A).0 (s.degree A) (s.next A) (s.is_a_record.good A)) k refl in
        omega arith

    -- all steps
    pub along_end : Accepted p G H → {d : ℕ} {b rows : List ℕ} → Along p G H B c l d b rows → Along p G H B c l all last rows
    along_end A {d} {b} {rows} h =
        let (e, f) = same_chain (setting A) (basis_of A B) (first.start A).good (h.product A).0 (closes.closing A).chain refl in
        let g : b ≡ last = basis_unique A b last h.is_a_record closes.is_a_record f in
        subst (λ n. Along p G H B c l n last rows) e (subst (λ z. Along p G H B c l d z rows) g h)

  -- one step more
  pub along_more : {i d : ℕ} {b rows : List ℕ} → Along p G H B c i d b rows → (o : StepTaken) → Steps p G H b o → (rows' : List ℕ) → length rows' ≡ length rows
      → ((j : ℕ) → j < c + c + c → get_or rows' j 0 < p) → ((j : ℕ) → c + c + c ≤ j → get_or rows' j 0 ≡ get_or rows j 0)
      → ((A : Accepted p G H) → let S = setting A in (E' : (O S).El) → Fit S (d + o.degree + 1) E' → (O S).ops.mul (six A c 0 rows) (basis_of A b).M ≡ (O S).ops.mul (sc S (basis_of A b).U) E' → six A c 0 rows' ≡ E')
      → Along p G H B c (suc i) (d + o.degree) o.basis rows'
  along_more {i} {d} {b} {rows} h o s rows' size each rest law = record {
    is_a_record = s.is_a_record;
    whole = size ∙ h.whole;
    each = λ j. elim (dec_lt j (c + c + c)) [
      | yes u ↦ each j u
      | no u ↦ subst (λ v. v < p) (sym (rest j (omega arith))) (h.each j)
    ];
    rest = λ j u. rest j u ∙ h.rest j u;
    product = λ A. let S = setting A in
        let (k, e) = h.product A in
        let x = next_exact S (basis_of A B) (first.start A) k (six A c 0 rows) e o.degree (basis_of A o.basis) (s.degree A) (s.next A) (s.is_a_record.good A) in (
          then o.degree (basis_of A o.basis) k (s.degree A) (s.next A) (s.is_a_record.good A),
          subst (Product S (then o.degree (basis_of A o.basis) k (s.degree A) (s.next A) (s.is_a_record.good A)))
              (sym (law A x.E' (subst (λ n. Fit S n x.E') (let q : suc (d + o.degree) ≡ d + o.degree + 1 = omega arith in q) x.fit) x.eq)) x.product,
        );
  }
