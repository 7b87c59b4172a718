-- What `turn` asks of its parts and hands out.
--   part_scaled     a part of a list, scaled and given back
--   twice_scaled    both halves of the six rows
--   turns           so the rows are turned
use mathlib.Core.Path.{◌≡◌, sym, ap, ◌∙◌, subst}
use mathlib.Core.Logic.{◌≢◌}
use mathlib.Core.List.{List, [], ◌∷◌, ◌++◌}
use Prim.Native.Nat.{ℕ, ◌+◌, ◌*◌, ◌-◌, ◌%◌, ◌<◌, ◌≤◌}
use native.Mathlib.Omega.{arith}
use native.Mathlib.Decide.{dec_lt}
use lib.ListN.{length, get_or, take, drop}
use Rattle.math_ring.proofs.Solve.{var, hyp, one, ◌:*◌, solve_by}
use Rattle.math_ring.proofs.Laws as rg
use Rattle.math_valued.proofs.Polynomial.{P_path, const_unit}
use Rattle.math_rows.specs.Reading.{Reading}
use Rattle.math_rows.specs.Made.{reading}
use Rattle.math_rows.proofs.Tab.{at_tab}
use Rattle.base_lists.specs.Pieces.{cut, between}
use Rattle.base_lists.proofs.Pieces.{between_length, between_cut}
use Rattle.base_lists.proofs.Puts.{Around, put_back}
use Rattle.poly_long.specs.Long.{Scaled as ScaledList}
use Rattle.field_open.specs.Refusal.{Accepted}
use Rattle.math_ideals.specs.Setting.{Setting}
use Rattle.math_ideals.specs.Element.{O, sc}
use Rattle.math_ideals.proofs.Sizes.{sc_a, sc_b, sc_c}
use Rattle.math_ideals.proofs.Lattice.{sc_mul}
use Rattle.math_chain.specs.Convention.{Convention, Scaled}
use Rattle.basis_record.specs.Record.{setting}
use Rattle.field_series.specs.declared.OpenedField.{OpenedField}
use Rattle.unit_inverse.proofs.Inverting.{row_scaled}
use Rattle.unit_finish.specs.Rows.{six, HoldsUnit}
use Rattle.unit_finish.proofs.Stored.{six_path}
use Rattle.unit_scale.specs.Scale.{constant, ScaledOver, Factors, Turns}

-- ---- a part of a list
module _ (p s a k : ℕ) (l q : List ℕ) (m : ℕ) (em : m ≡ k) (inside : a + k ≤ length l) (z : ScaledList p s (between a (a + k) l) q) where
  long : length (between a (a + k) l) ≡ k
  long = between_length a (a + k) l (omega arith) inside ∙ (let o : a + k - a ≡ k = omega arith in o)

  read : (i : ℕ) → i < k → get_or (between a (a + k) l) i 0 ≡ get_or l (a + i) 0
  read i u = ap (λ x. get_or x i 0) (between_cut a (a + k) l (omega arith) inside ∙ ap (λ n. cut a n l) (let o : a + k - a ≡ k = omega arith in o)) ∙ at_tab k (λ j. get_or l (a + j) 0) i u

  put : Around a k l q (take a l ++ (q ++ drop m (drop a l)))
  put = subst (λ j. Around a k l q (take a l ++ (q ++ drop j (drop a l)))) (sym em) (put_back a k l q inside (z.size ∙ long))

  pub record Part (r : List ℕ) : Type 0 where
    pub size : length r ≡ length l
    pub before : (i : ℕ) → i < a → get_or r i 0 ≡ get_or l i 0
    pub at : (i : ℕ) → i < k → get_or r (a + i) 0 ≡ (get_or l (a + i) 0 * s) % p
    pub each : (i : ℕ) → i < k → get_or r (a + i) 0 < p
    pub after : (i : ℕ) → a + k ≤ i → get_or r i 0 ≡ get_or l i 0

  pub part_scaled : Part (take a l ++ (q ++ drop m (drop a l)))
  part_scaled = record {
    size = put.size;
    before = put.before;
    at = λ i u. put.inside i u ∙ z.at i (let e = long in omega arith) ∙ ap (λ x. (x * s) % p) (read i u);
    each = λ i u. subst (λ x. x < p) (sym (put.inside i u)) (z.each i);
    after = put.after;
  }

-- ---- both halves
pub record Twice (p s t c : ℕ) (rows rows' : List ℕ) : Type 0 where
  pub size : length rows' ≡ length rows
  pub first : (i : ℕ) → i < c + c + c → get_or rows' i 0 ≡ (get_or rows i 0 * s) % p
  pub second : (i : ℕ) → i < c + c + c → get_or rows' (c + c + c + i) 0 ≡ (get_or rows (c + c + c + i) 0 * t) % p
  pub each : ((i : ℕ) → get_or rows i 0 < p) → (i : ℕ) → get_or rows' i 0 < p

module _ (p s t c : ℕ) (rows q₁ q₂ : List ℕ) (m₁ m₂ : ℕ) (e₁ : m₁ ≡ c + c + c) (e₂ : m₂ ≡ c + c + c) (whole : length rows ≡ 6 * c) (z₁ : ScaledList p s (between 0 (c + c + c) rows) q₁) where
  abbrev k : ℕ
  k = c + c + c

  abbrev rows₁ : List ℕ
  rows₁ = take 0 rows ++ (q₁ ++ drop m₁ (drop 0 rows))

  first_half : Part p s 0 k rows q₁ m₁ e₁ (omega (arith, whole)) (subst (λ j. ScaledList p s (between 0 j rows) q₁) (let o : k ≡ 0 + k = omega arith in o) z₁) rows₁
  first_half = part_scaled p s 0 k rows q₁ m₁ e₁ (omega (arith, whole)) (subst (λ j. ScaledList p s (between 0 j rows) q₁) (let o : k ≡ 0 + k = omega arith in o) z₁)

  pub long₁ : length rows₁ ≡ length rows
  long₁ = first_half.size

  module _ (z₂ : ScaledList p t (between k (k + k) rows₁) q₂) where
    abbrev rows₂ : List ℕ
    rows₂ = take k rows₁ ++ (q₂ ++ drop m₂ (drop k rows₁))

    second_half : Part p t k k rows₁ q₂ m₂ e₂ (omega (arith, whole, long₁)) z₂ rows₂
    second_half = part_scaled p t k k rows₁ q₂ m₂ e₂ (omega (arith, whole, long₁)) z₂

    zero_at : (l : List ℕ) (i : ℕ) → get_or l (0 + i) 0 ≡ get_or l i 0
    zero_at l i = ap (λ j. get_or l j 0) (let o : 0 + i ≡ i = omega arith in o)

    pub twice_scaled : Twice p s t c rows rows₂
    twice_scaled = record {
      size = second_half.size ∙ long₁;
      first = λ i u. second_half.before i u ∙ sym (zero_at rows₁ i) ∙ first_half.at i u ∙ ap (λ x. (x * s) % p) (zero_at rows i);
      second = λ i u. second_half.at i u ∙ ap (λ x. (x * t) % p) (first_half.after (k + i) (omega arith));
      each = λ h i. elim (dec_lt i k) [
        | yes u ↦ subst (λ x. x < p) (sym (second_half.before i u ∙ sym (zero_at rows₁ i))) (first_half.each i u)
        | no u ↦ elim (dec_lt i (k + k)) [
          | yes v ↦ subst (λ j. get_or rows₂ j 0 < p) (let o : k + (i - k) ≡ i = omega arith in o) (second_half.each (i - k) (omega arith))
          | no v ↦ subst (λ x. x < p) (sym (second_half.after i (omega arith) ∙ first_half.after i (omega arith))) (h i)
        ]
      ];
    }

-- ---- the unit
module _ {p : ℕ} {G H : List ℕ} (A : Accepted p G H) (c : ℕ) (rows rows' : List ℕ) where
  abbrev S : Setting
  S = setting A

  abbrev ρ : Reading p
  ρ = reading p A.prime

  open (O S).ops use {mul as ◌⊗◌, 𝟏 as 1ₒ}

  infixl 70 ◌⊗◌
  scaled_six : (s at : ℕ) → ((i : ℕ) → i < c + c + c → get_or rows' (at + i) 0 ≡ (get_or rows (at + i) 0 * s) % p) → six A c at rows' ≡ sc S (constant A s) ⊗ six A c at rows
  scaled_six s at h =
      let E = six A c at rows in
      let k = constant A s in
      let place : (b i : ℕ) → get_or rows' (at + (b + i)) 0 ≡ (get_or rows (at + (b + i)) 0 * s) % p → get_or rows' (at + b + i) 0 ≡ (get_or rows (at + b + i) 0 * s) % p
      = (λ b i e. subst (λ j. get_or rows' j 0 ≡ (get_or rows j 0 * s) % p) (let o : at + (b + i) ≡ at + b + i = omega arith in o) e) in
      six_path A c at rows' (sc S k ⊗ E)
      (row_scaled ρ s at c rows rows' (λ i u. h i (omega arith)) ∙ sym (sc_a S k E))
      (row_scaled ρ s (at + c) c rows rows' (λ i u. place c i (h (c + i) (omega arith))) ∙ sym (sc_b S k E))
      (row_scaled ρ s (at + c + c) c rows rows' (λ i u. subst (λ j. get_or rows' j 0 ≡ (get_or rows j 0 * s) % p) (let o : at + (c + c + i) ≡ at + c + c + i = omega arith in o) (h (c + c + i) (omega arith))) ∙ sym (sc_c S k E))

  -- the two constants undo each other
  undone : (s t : ℕ) → (s * t) % p ≡ 1 → sc S (constant A s) ⊗ sc S (constant A t) ≡ 1ₒ
  undone s t e = sym (sc_mul S (constant A s) (constant A t)) ∙ ap (sc S) (P_path ρ.𝓥
      (sym (ρ.const_mul (ρ.cast s) (ρ.cast t)) ∙ ap ρ.𝓥.const (sym (ρ.cast_mul s t) ∙ sym (ρ.cast_mod (s * t)) ∙ ap ρ.cast e ∙ ρ.cast_one) ∙ ρ.const_one))

  over : (k : Convention) (s t : ℕ) → (s * t) % p ≡ 1 → Twice p s t c rows rows' → Scaled S k (sc S (constant A s) ⊗ six A c 0 rows) → HoldsUnit p G H c rows → ScaledOver k A c rows rows'
  over k s t e w m h =
      let first = scaled_six s 0 (λ i u. subst (λ j. get_or rows' j 0 ≡ (get_or rows j 0 * s) % p) (let o : i ≡ 0 + i = omega arith in o) (w.first i u)) in
      let second = scaled_six t (c + c + c) w.second in
      let nz : ρ.cast s ≢ ρ.𝓥.K.ops.𝟎 = (λ z. ρ.𝓥.one≢zero (sym ρ.cast_one ∙ sym (ap ρ.cast e) ∙ ρ.cast_mod (s * t) ∙ ρ.cast_mul s t ∙ ap (λ x. ρ.𝓥.K.ops.mul x (ρ.cast t)) z ∙ rg.zero_mul' ρ.𝓥.K (ρ.cast t))) in
      record {
        by = constant A s;
        is_a_unit = const_unit S.𝓥 (constant A s) (ρ.cast s, nz, ρ.𝓥.const_lead (ρ.cast s));
        times = first;
        scaled = subst (Scaled S k) (sym first) m;
        inverse = ap (λ x. x ⊗ six A c (c + c + c) rows') first ∙ ap (λ x. sc S (constant A s) ⊗ six A c 0 rows ⊗ x) second
            ∙ solve_by (O S) (var 0 :* var 1 :* (var 2 :* var 3)) one (hyp (var 0 :* var 2) (var 1 :* var 3) one ∷ hyp one (var 0 :* var 2) one ∷ []) tt
            (sc S (constant A s) ∷ six A c 0 rows ∷ sc S (constant A t) ∷ six A c (c + c + c) rows ∷ []) ((h.unit A).inverse, (undone s t e, tt));
      }

pub turns : (f : OpenedField) (n c s t : ℕ) (rows rows' : List ℕ) → Factors f n c rows s → (s * t) % f.field.p ≡ 1 → Twice f.field.p s t c rows rows' → Turns f n c rows rows'
turns f n c s t rows rows' x e w = record {
  size = w.size;
  law = λ G H kept holds k named. record {
    size = w.size;
    each = w.each holds.each;
    over = λ A. over A c rows rows' k s t e w (x.law G H A kept holds k named) holds;
  };
}
