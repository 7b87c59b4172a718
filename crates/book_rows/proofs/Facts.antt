-- A row without the zeros at its end, put into a slice; six rows and their length.
use mathlib.Core.Path.{◌≡◌, ◌∙◌, refl, sym, ap, subst}
use mathlib.Core.Bool.{Bool, true}
use mathlib.Core.Logic.{◌≢◌}
use mathlib.Core.List.{List, [], ◌∷◌}
use Prim.Native.Nat.{ℕ, ◌+◌, ◌-◌, ◌≤◌, min}
use native.Mathlib.Omega.{arith}
use lib.ListN.{length, take, drop, replicate, length-take, length-replicate}
use Rattle.base_lists.specs.Pieces.{Written}
use Rattle.base_lists.specs.Coefficients.{Size, trim}
use Rattle.base_lists.proofs.Puts.{written_none, front_is, front_count}
use Rattle.base_lists.proofs.Trims.{trim_size, trim_length}
use Rattle.base_answers.specs.Limits.{NoSixRows, Six}
use Rattle.base_answers.proofs.Limits.{no_six, six_none}
use Rattle.base_answers.specs.Said.{Said, refused}
use Rattle.field_open.specs.Refusal.{Refusal}
use Rattle.book_write.specs.Write.{body_from, WriteTells}
use Rattle.book_rows.specs.Rows.{row_of, field, unfit, RowsSays}
use Rattle.book_rows.specs.Code.{Widened}

pub none_put : (d l : List ℕ) → Written d 0 (take 0 l) 0 0 d
none_put d l = written_none d 0

pub row_put : (d l d' : List ℕ) (n i : ℕ) → Size l n → i ≡ n → Written d 0 (take i l) i i d' → Widened l d i d'
row_put d l d' n i s e w =
    let f : length (trim l) ≡ i = trim_length l n s ∙ sym e in
    let g : take i l ≡ trim l = ap (λ k. take k l) e ∙ sym (trim_size l n s) in
    let h : n ≤ length l = s.fits in
    record { put = subst (λ k. Written d 0 (trim l) k i d') (sym f) (subst (λ x. Written d 0 x i i d') g w); within = omega arith }

-- ---- the slices that are handed on
module _ {row d d' : List ℕ} {r : ℕ} (w : Widened row d r d') (h : length row ≤ length d) where
  room : length (trim row) ≤ length d
  room = let n = w.put.next in let k = w.within in omega arith

  pub widened_is : take r d' ≡ trim row
  widened_is = front_is w.put room

  pub widened_count : r ≡ length (take r d')
  widened_count = front_count w.put room

  pub widened_fits : r ≤ length d'
  widened_fits = let k = w.within in let s = w.put.same in omega arith

abbrev zeros : List ℕ
zeros = replicate 4096 0

piece_short : (at n : ℕ) (l : List ℕ) → n ≤ 4096 → length (take n (drop at l)) ≤ length zeros
piece_short at n l h =
    let e : length zeros ≡ 4096 = length-replicate {A = ℕ} 4096 0 in
    let k : length (take n (drop at l)) ≡ min n (length (drop at l)) = length-take n (drop at l) in
    omega arith

pub same_body : (p : ℕ) (G H : List ℕ) (t : ℕ) {a a' b b' c c' d : List ℕ} {x : Said} {d' : List ℕ} → a ≡ a' → b ≡ b' → c ≡ c'
    → WriteTells (body_from p G H t a b c) d x d' → WriteTells (body_from p G H t a' b' c') d x d'
same_body p G H t {a} {a'} {b} {b'} {c} {c'} {d} {x} {d'} e f g w =
    subst (λ z. WriteTells (body_from p G H t a' b' z) d x d') g
    (subst (λ z. WriteTells (body_from p G H t a' z c) d x d') f (subst (λ z. WriteTells (body_from p G H t z b c) d x d') e w))

module _ (c : ℕ) (l : List ℕ) (s : Six c l) {n : ℕ} {f : List ℕ} (at to : ℕ) (e : to ≡ at + c)
    (w : Widened (take (to - at) (drop at l)) zeros n f) where
  wide_is : to - at ≡ c
  wide_is = omega arith

  within : length (take (to - at) (drop at l)) ≤ length zeros
  within = piece_short at (to - at) l (let r = s.room in let k = wide_is in omega arith)

  pub row_is : take n f ≡ row_of c at l
  row_is = widened_is w within ∙ ap (λ k. trim (take k (drop at l))) wide_is

  pub row_count : n ≡ length (take n f)
  row_count = widened_count w within

  pub row_fits : n ≤ length f
  row_fits = widened_fits w within

-- ---- the answers where the rows are not six
module _ {p : ℕ} {G H : List ℕ} {t : ℕ} (l : List ℕ) {d : List ℕ} {r : Bool} (q : NoSixRows (length l) r) (e : r ≡ true) where
  pub refused_rows : {n : ℕ} → n ≢ 0 → Refusal p G H n → RowsSays p G H t l d d (n ∷ 0 ∷ 0 ∷ 0 ∷ 0 ∷ [])
  refused_rows {n} h o = record { said = refused n; tells = field (six_none l (no_six q e)) n h o refl refl; written = refl }

  pub unfit_rows : Refusal p G H 0 → RowsSays p G H t l d d (14 ∷ 0 ∷ 0 ∷ 0 ∷ 0 ∷ [])
  unfit_rows o = record { said = refused 14; tells = unfit (six_none l (no_six q e)) o refl refl; written = refl }
