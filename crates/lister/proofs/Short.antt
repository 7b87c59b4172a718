-- How long an answer is.
--   lists_short   it has at most `room` bytes
use mathlib.Core.Path.{◌≡◌, sym, ◌∙◌, subst}
use mathlib.Core.Logic.{◌≢◌}
use mathlib.Core.List.{List, [], ◌∷◌, ◌++◌, map}
use Prim.Native.Nat.{ℕ, suc, ◌+◌, ◌*◌, ◌≤◌, ◌<◌}
use native.Mathlib.Omega.{arith}
use native.Mathlib.Decide.{dec_lt}
use lib.ListN.{length, get_or, take, length-append, length-take, length-replicate}
use lib.Seq.{get_or-take}
use Rattle.text_put.specs.Print.{comma, semicolon, newline, number_text, join, list_text, line_text, refused_text}
use Rattle.text_number.proofs.Inverse.{text_numeral}
use Rattle.text_read.proofs.Writings.{Small, reads_below}
use Rattle.math_rows.proofs.Floors.{sized}
use Rattle.math_rows.proofs.Tab.{length_tab, at_tab}
use Rattle.field_open.specs.Padding.{unpad}
use Rattle.field_open.proofs.Door.{door_out}
use Rattle.door_unit.proofs.Once.{refused_number}
use Rattle.base_lists.specs.Pieces.{cut}
use Rattle.door_unit.specs.Unit.{UnitAnswer, Makes, Goes, bad, spent, narrow, made}
use Rattle.base_lists.specs.Coefficients.{trim}
use Rattle.lister_rows.specs.Text.{rows_text}
use Rattle.lister_print.specs.Text.{unit_text, made_text}
use Rattle.lister.specs.Listing.{budget, blank, room, Lists, malformed, read}
use Rattle.base_lists.proofs.Trims.{trim_size}
use Rattle.base_lists.proofs.Paddings.{unpad_short, unpad_long}
use Rattle.lister_print.proofs.Prints.{made_unit, made_refused}

-- ---- numbers and lists
number_short : (n : ℕ) → n < 100000 → length (number_text n) ≤ 5
number_short n h = (text_numeral n h).few

pub refused_short : (n : ℕ) → n < 100000 → length (refused_text n) ≤ 14
unfolding refused_text
refused_short n h =
    let a = number_short n h in
    let b = length-append (114 ∷ 101 ∷ 102 ∷ 117 ∷ 115 ∷ 101 ∷ 100 ∷ 32 ∷ []) (number_text n) in
    let c = length-append ((114 ∷ 101 ∷ 102 ∷ 117 ∷ 115 ∷ 101 ∷ 100 ∷ 32 ∷ []) ++ number_text n) (newline ∷ []) in
    omega arith

texts_short : (l : List ℕ) → Small l → length (join comma (map number_text l)) ≤ 6 * length l
unfolding join
texts_short [] h = omega arith
texts_short (x ∷ []) h = let a = number_short x (h 0 (omega arith)) in omega arith
texts_short (x ∷ y ∷ l) h =
    let a : length (number_text x) ≤ 5 = number_short x (h 0 (omega arith)) in
    let b : length (join comma (map number_text (y ∷ l))) ≤ 6 * suc (length l) = texts_short (y ∷ l) (λ k u. h (suc k) (omega arith)) in
    let c = length-append (number_text x) (comma ∷ join comma (map number_text (y ∷ l))) in
    omega arith

list_short : (l : List ℕ) → Small l → length (list_text l) ≤ 6 * length l
unfolding list_text
list_short l h = texts_short l h

trim_small : (l : List ℕ) → Small l → (length (trim l) ≤ length l) × Small (trim l)
trim_small l h =
    let (n, s) = sized l in
    let e : trim l ≡ take n l = trim_size l n s in
    let f : n ≤ length l = s.fits in
    let o = length-take n l in
    (subst (λ z. length z ≤ length l) (sym e) (omega arith), subst Small (sym e) (λ k u. subst (λ z. z < 100000) (sym (get_or-take n l k 0 (omega arith))) (h k (omega arith))))

-- ---- the field: the lists that a line's lists stand for have at most 32 numbers
unpad_small : (l : List ℕ) → Small l → (length (unpad l) ≤ 32) × Small (unpad l)
unpad_small l h = elim (dec_lt 32 (length l)) [
  | yes u ↦ subst (λ z. (length z ≤ 32) × Small z) (sym (unpad_long 32 l u)) (omega arith, λ k v. absurd (omega arith))
  | no u ↦ let (a, b) = trim_small l h in subst (λ z. (length z ≤ 32) × Small z) (sym (unpad_short 32 l (omega arith))) (omega arith, b)
]

field_short : (p : ℕ) (G H : List ℕ) → p < 100000 → (length G ≤ 32) × Small G → (length H ≤ 32) × Small H → length (line_text p G H) ≤ 400
unfolding line_text join
field_short p G H b (i, g) (j, h) =
    let a = number_short p b in
    let c = list_short G g in
    let d = list_short H h in
    let x = length-append (number_text p) (semicolon ∷ list_text G ++ semicolon ∷ list_text H) in
    let y = length-append (list_text G) (semicolon ∷ list_text H) in
    omega arith

-- ---- the rows
cut_small : {p : ℕ} (at : ℕ) (rows : List ℕ) → p < 100000 → ((i : ℕ) → get_or rows i 0 < p) → Small (cut at 1024 rows)
cut_small {p} at rows b h k u =
    let e : length (cut at 1024 rows) ≡ 1024 = length_tab 1024 (λ i. get_or rows (at + i) 0) in
    let a : get_or (cut at 1024 rows) k 0 ≡ get_or rows (at + k) 0 = at_tab 1024 (λ i. get_or rows (at + i) 0) k (omega arith) in
    let c = h (at + k) in
    omega arith

row_short : {p : ℕ} (at : ℕ) (rows : List ℕ) → p < 100000 → ((i : ℕ) → get_or rows i 0 < p) → length (list_text (trim (cut at 1024 rows))) ≤ 6144
row_short at rows b h =
    let (s, t) = trim_small (cut at 1024 rows) (cut_small at rows b h) in
    let e : length (cut at 1024 rows) ≡ 1024 = length_tab 1024 (λ i. get_or rows (at + i) 0) in
    let a = list_short (trim (cut at 1024 rows)) t in
    omega arith

rows_short : (E0 E1 E2 : List ℕ) → length (list_text E0) ≤ 6144 → length (list_text E1) ≤ 6144 → length (list_text E2) ≤ 6144 → length (rows_text E0 E1 E2) ≤ 18436
unfolding rows_text
rows_short E0 E1 E2 a b c =
    let x = length-append (semicolon ∷ list_text E0) (semicolon ∷ list_text E1) in
    let y = length-append ((semicolon ∷ list_text E0) ++ semicolon ∷ list_text E1) (semicolon ∷ list_text E2) in
    let z = length-append ((semicolon ∷ list_text E0) ++ semicolon ∷ list_text E1 ++ semicolon ∷ list_text E2) (newline ∷ []) in
    omega arith

unit_short : (s : List ℕ) (l R : ℕ) (E0 E1 E2 : List ℕ) → length s ≤ 400 → l < 100000 → R < 100000 → length (rows_text E0 E1 E2) ≤ 18436
    → length (unit_text s l R E0 E1 E2) ≤ 18848
unfolding unit_text
unit_short s l R E0 E1 E2 a b c d =
    let u = number_short l b in
    let v = number_short R c in
    let x = length-append s (semicolon ∷ number_text l) in
    let y = length-append (s ++ semicolon ∷ number_text l) (semicolon ∷ number_text R) in
    let z = length-append (s ++ semicolon ∷ number_text l ++ semicolon ∷ number_text R) (rows_text E0 E1 E2) in
    omega arith

-- ---- what `unit` answers
record Fits (m : UnitAnswer) (rows : List ℕ) : Type 0 where
  pub p : ℕ
  pub below : p < 100000
  pub period : m.period.0 ≤ 1000
  pub regulator : m.regulator.0 ≤ 1024
  pub each : (i : ℕ) → get_or rows i 0 < p

refused_made : (s : List ℕ) (m : UnitAnswer) (rows : List ℕ) {n : ℕ} → m.refusal ≡ n → 1 ≤ n → n ≤ 14 → length (made_text s m rows) ≤ room
refused_made s m rows {n} e a b =
    let o : m.refusal ≢ 0 = λ z. absurd (omega arith) in
    let h = refused_short m.refusal (omega arith) in
    subst (λ t. length t ≤ room) (sym (made_refused s m rows o)) (omega arith)

unit_made : (s : List ℕ) (m : UnitAnswer) (rows : List ℕ) → m.refusal ≡ 0 → length s ≤ 400 → Fits m rows → length (made_text s m rows) ≤ room
unit_made s m rows e l f =
    let E0 = trim (cut 0 1024 rows) in
    let E1 = trim (cut 1024 1024 rows) in
    let E2 = trim (cut 2048 1024 rows) in
    let r = rows_short E0 E1 E2 (row_short 0 rows f.below f.each) (row_short 1024 rows f.below f.each) (row_short 2048 rows f.below f.each) in
    let a = f.period in
    let b = f.regulator in
    let h = unit_short s m.period.0 m.regulator.0 E0 E1 E2 l (omega arith) (omega arith) r in
    subst (λ t. length t ≤ room) (sym (made_unit s m rows e)) (omega arith)

goes_short : (s : List ℕ) (p : ℕ) (G H : List ℕ) (m : UnitAnswer) (rows scratch : List ℕ) → p < 100000 → length s ≤ 400 → Goes 1 p G H budget blank blank m rows scratch → length (made_text s m rows) ≤ room
goes_short s p G H m rows scratch b l (bad a x) = refused_made s m rows (refused_number x) (omega arith) (omega arith)
goes_short s p G H m rows scratch b l (spent v c t o x) = refused_made s m rows (refused_number x) (omega arith) (omega arith)
goes_short s p G H m rows scratch b l (narrow v c n d t u f k x) = refused_made s m rows (refused_number x) (omega arith) (omega arith)
goes_short s p G H m rows scratch b l (made v c n d t u f k x) =
    let w : 6144 ≡ 6 * c = sym (length-replicate {A = ℕ} 6144 0) ∙ t.six.whole in
    let g : m.regulator.0 + m.regulator.0 ≡ d = x.regulator in
    let q : m.period.0 ≡ n = x.period in
    unit_made s m rows x.number l (record { p = p; below = b; period = omega arith; regulator = omega arith; each = x.rows_hold.each })

makes_short : (s : List ℕ) (p : ℕ) (G H : List ℕ) (m : UnitAnswer) (rows scratch : List ℕ) → p < 100000 → length s ≤ 400 → Makes 1 p G H budget blank blank m rows scratch
    → length (made_text s m rows) ≤ room
makes_short s p G H m rows scratch b l =
    door_out (λ k f h x. refused_made s m rows (refused_number x) (omega arith) (omega arith)) (λ A. goes_short s p G H m rows scratch b l)

pub lists_short : {line t : List ℕ} → Lists line t → length t ≤ room
lists_short (malformed h) = let a = refused_short 12 (omega arith) in omega arith
lists_short {line} (read p G H m rows scratch r x) =
    let (b, g, h) = reads_below r in
    makes_short (line_text p (unpad G) (unpad H)) p (unpad G) (unpad H) m rows scratch b (field_short p (unpad G) (unpad H) b (unpad_small G g) (unpad_small H h)) x
