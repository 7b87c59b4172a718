-- What the book asks of the field's table: a list of more than 14 coefficients is refused as its first 14 are.
use mathlib.Core.Path.{◌≡◌, sym, ap, ◌∙◌, subst}
use mathlib.Core.Logic.{◌⊎◌, inl, inr}
use mathlib.Core.List.{List}
use Prim.Native.Nat.{ℕ, ◌<◌, ◌≤◌}
use native.Mathlib.Omega.{arith}
use native.Mathlib.Decide.{dec_le}
use lib.ListN.{length, get_or, take}
use lib.Seq.{ext_get_or, get_or-take, length-take-le, take_all}
use Rattle.math_rows.specs.Row.{tab}
use Rattle.math_rows.proofs.Tab.{at_tab, length_tab}
use Rattle.field_open.specs.Refusal.{Fault3, Refusal}
use Rattle.base_answers.proofs.Stages.{later}
use Rattle.book_bytes.specs.Bytes.{u2}
use Rattle.book_bytes.proofs.Lists.{length_list}
use Rattle.book_body.specs.Body.{FieldSays, list_at, body_of}
use Rattle.book_field.specs.Code.{Clipped}

-- ---- the field's table on 14 coefficients: a longer list is refused with 3 (after 1 and 2) as its first 14 are
abbrev pub cut : List ℕ → List ℕ
cut = take 14

long_fault : (p : ℕ) (l : List ℕ) → 13 < length l → Fault3 p l
long_fault p l h d s = let a : length l ≤ 13 = s.short in omega arith

cut_fault : (p : ℕ) (l : List ℕ) → 14 < length l → Fault3 p (cut l)
cut_fault p l h = let e : length (take 14 l) ≡ 14 = length-take-le 14 l (omega arith) in long_fault p (cut l) (omega arith)

third : {A B E : Type 0} {N M : Type 0} → A → B → (A × E) ⊎ ((A → ⊥) × N) → (B × E) ⊎ ((B → ⊥) × M)
third a b (inl x) = inl (b, x.1)
third a b (inr x) = absurd (x.0 a)

cut_left : (p : ℕ) (G H K : List ℕ) (n : ℕ) → 14 < length G → Refusal p (cut G) K n → Refusal p G H n
unfolding Refusal
cut_left p G H K n h = later (later (third (cut_fault p G h) (long_fault p G (omega arith))))

cut_right : (p : ℕ) (G H : List ℕ) (n : ℕ) → 14 < length H → Refusal p G (cut H) n → Refusal p G H n
unfolding Refusal
cut_right p G H n h = later (later (later (third (cut_fault p H h) (long_fault p H (omega arith)))))

pub cut_refusal : (p : ℕ) (G H : List ℕ) (n : ℕ) → Refusal p (cut G) (cut H) n → Refusal p G H n
cut_refusal p G H n o = go (dec_le (length G) 14) (dec_le (length H) 14)
  where
    go : Dec (length G ≤ 14) → Dec (length H ≤ 14) → Refusal p G H n
    go (no a) b = cut_left p G H (cut H) n (omega arith) o
    go (yes a) (no b) = cut_right p G H n (omega arith) (subst (λ (x : List ℕ). Refusal p x (cut H) n) (take_all 14 G a) o)
    go (yes a) (yes b) =
        subst (λ (x : List ℕ). Refusal p x H n) (take_all 14 G a) (subst (λ (x : List ℕ). Refusal p (cut G) x n) (take_all 14 H b) o)

-- the code's row, cut at the code's length
pub cut_row : (l : List ℕ) (n : ℕ) → Clipped (length l) n → take n (tab 14 (λ i. get_or l i 0)) ≡ cut l
cut_row l n c =
    let f : ℕ → ℕ = λ i. get_or l i 0 in
    let a : length (tab 14 f) ≡ 14 = length_tab 14 f in
    let b : length (take n (tab 14 f)) ≡ n = length-take-le n (tab 14 f) (let w : n ≤ 14 = c.within in omega arith) in
    let e : length (cut l) ≡ n = size (dec_le (length l) 14) in
    ext_get_or 0 (take n (tab 14 f)) (cut l) (b ∙ sym e)
    (λ i h.
    let w : n ≤ 14 = c.within in
    let u : i < n = omega arith in
    let v : i < 14 = omega arith in
    get_or-take n (tab 14 f) i 0 u ∙ at_tab 14 f i v ∙ sym (get_or-take 14 l i 0 v))
  where
    size : Dec (length l ≤ 14) → length (cut l) ≡ n
    size (yes h) = ap length (take_all 14 l h) ∙ sym (c.short h)
    size (no h) = length-take-le 14 l (omega arith) ∙ sym (c.long (omega arith))

pub field_says : (s : List ℕ) (p n m r : ℕ) (g h : List ℕ) → p ≡ u2 s 0 → Clipped (u2 s 2) n → Clipped (u2 s 4) m
    → g ≡ tab 14 (λ i. get_or (list_at s 0) i 0) → h ≡ tab 14 (λ i. get_or (list_at s 1) i 0) → Refusal p (take n g) (take m h) r → FieldSays (body_of s) r
unfolding body_of
field_says s p n m r g h e c d eg eh o =
    cut_refusal (u2 s 0) (list_at s 0) (list_at s 1) r
    (subst (λ (q : ℕ). Refusal q (cut (list_at s 0)) (cut (list_at s 1)) r) e
    (subst (λ (z : List ℕ). Refusal p (cut (list_at s 0)) z r) (ap (take m) eh ∙ cut_row (list_at s 1) m (subst (λ (z : ℕ). Clipped z m) (sym (length_list 16 2 s 1)) d))
    (subst (λ (z : List ℕ). Refusal p z (take m h) r) (ap (take n) eg ∙ cut_row (list_at s 0) n (subst (λ (z : ℕ). Clipped z n) (sym (length_list 16 2 s 0)) c)) o)))
