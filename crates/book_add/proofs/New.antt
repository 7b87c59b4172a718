-- The new book: its bytes are the writing of the old value with the body last.
use mathlib.Core.Path.{◌≡◌, refl, sym, ap, ap₂, ◌∙◌}
use mathlib.Core.List.{List, [], ◌∷◌, ◌++◌, append_assoc, append-nil}
use Prim.Native.Nat.{ℕ, zero, suc, ◌+◌, ◌-◌, ◌*◌, ◌<◌, ◌≤◌}
use native.Mathlib.Numerals.{add-one}
use native.Mathlib.Nat.{add-zero}
use native.Mathlib.Omega.{arith}
use native.Mathlib.Decide.{dec_lt}
use lib.ListN.{length, drop, length-append, length-drop}
use Rattle.book_bytes.specs.Bytes.{le, Bytes}
use Rattle.book_body.specs.Body.{Body, body_bytes, body_of, Formed}
use Rattle.book_body.proofs.Body.{body_back}
use Rattle.book_check.specs.Book.{mark, width, count, start_at, length_at, ends, entry, Accepted}
use Rattle.book_check.specs.Value.{table, bodies, bytes_of_book, rows, value_of}
use Rattle.book_contents.proofs.Contents.{ends_zero, ends_more, inside}
use Rattle.book_check.proofs.Value.{length_rows, part_long, bodies_back}
use Rattle.book_add.specs.Add.{new_book}
use Rattle.book_put.specs.Code.{line_end, lines}

-- ---- one more body
rows_snoc : (s : List ℕ) (i k : ℕ) → rows s i (suc k) ≡ rows s i k ++ (entry s (i + k) ∷ [])
rows_snoc s i zero = ap (λ (j : ℕ). entry s j ∷ []) (sym (add-zero i))
rows_snoc s i (suc k) =
    let e : suc i + k ≡ i + suc k = omega arith in
    ap (λ (z : List Body). entry s i ∷ z) (rows_snoc s (suc i) k ∙ ap (λ (j : ℕ). rows s (suc i) k ++ (entry s j ∷ [])) e)

bodies_snoc : (xs : List Body) (y : Body) → bodies (xs ++ (y ∷ [])) ≡ bodies xs ++ body_bytes y
unfolding bodies
bodies_snoc [] y = append-nil (body_bytes y)
bodies_snoc (x ∷ xs) y = ap (λ (z : List ℕ). body_bytes x ++ z) (bodies_snoc xs y) ∙ sym (append_assoc (body_bytes x) (bodies xs) (body_bytes y))

bodies_cons : (x : Body) (xs : List Body) → length (bodies (x ∷ xs)) ≡ length (body_bytes x) + length (bodies xs)
unfolding bodies
bodies_cons x xs = length-append (body_bytes x) (bodies xs)

bodies_none : length (bodies []) ≡ 0
unfolding bodies
bodies_none = refl

-- the line of y when it stands at e
abbrev line : ℕ → Body → List ℕ
line e y = le 4 e ++ le 4 (length (body_bytes y))

table_snoc : (at : ℕ) (xs : List Body) (y : Body) → table at (xs ++ (y ∷ [])) ≡ table at xs ++ line (at + length (bodies xs)) y
unfolding table
table_snoc at [] y =
    let e : at ≡ at + length (bodies []) = sym (add-zero at) ∙ ap (λ (k : ℕ). at + k) (sym bodies_none) in
    ap (λ (z : List ℕ). le 4 at ++ z) (append-nil (le 4 (length (body_bytes y)))) ∙ ap (λ (k : ℕ). line k y) e
table_snoc at (x ∷ xs) y =
    let m : ℕ = length (body_bytes x) in
    let b : length (bodies (x ∷ xs)) ≡ m + length (bodies xs) = bodies_cons x xs in
    let e : (at + m) + length (bodies xs) ≡ at + length (bodies (x ∷ xs)) = omega arith in
    ap (λ (z : List ℕ). le 4 at ++ (le 4 m ++ z)) (table_snoc (at + m) xs y ∙ ap (λ (k : ℕ). table (at + m) xs ++ line k y) e)
    ∙ ap (λ (z : List ℕ). le 4 at ++ z) (sym (append_assoc (le 4 m) (table (at + m) xs) (line (at + length (bodies (x ∷ xs))) y)))
    ∙ sym (append_assoc (le 4 at) (le 4 m ++ table (at + m) xs) (line (at + length (bodies (x ∷ xs))) y))

-- ---- an accepted book and a finished body
module _ (s b : List ℕ) (bs : Bytes s) (bb : Bytes b) (a : Accepted s) (f : Formed b) where
  ends_bodies : (at k : ℕ) → k ≤ count s → line_end s at k ≡ at + length (bodies (rows s 0 k))
  unfolding line_end
  ends_bodies at zero h = sym (add-zero at) ∙ ap (λ (k : ℕ). at + k) (sym bodies_none)
  ends_bodies at (suc k) h =
      let i : line_end s at k ≡ at + length (bodies (rows s 0 k)) = ends_bodies at k (omega arith) in
      let l : length (body_bytes (entry s k)) ≡ length_at s k = part_long s bs a k (omega arith) in
      let z : 0 + k ≡ k = omega arith in
      let e : rows s 0 (suc k) ≡ rows s 0 k ++ (entry s k ∷ []) = rows_snoc s 0 k ∙ ap (λ (j : ℕ). rows s 0 k ++ (entry s j ∷ [])) z in
      let m : length (bodies (rows s 0 (suc k))) ≡ length (bodies (rows s 0 k)) + length (body_bytes (entry s k)) =
      ap (λ (w : List Body). length (bodies w)) e ∙ ap length (bodies_snoc (rows s 0 k) (entry s k)) ∙ length-append (bodies (rows s 0 k)) (body_bytes (entry s k)) in
      omega arith

  lines_table : (at k : ℕ) → k ≤ count s → lines s at k ≡ table at (rows s 0 k)
  unfolding lines table
  lines_table at zero h = refl
  lines_table at (suc k) h =
      let l : length (body_bytes (entry s k)) ≡ length_at s k = part_long s bs a k (omega arith) in
      let z : 0 + k ≡ k = omega arith in
      let e : rows s 0 (suc k) ≡ rows s 0 k ++ (entry s k ∷ []) = rows_snoc s 0 k ∙ ap (λ (j : ℕ). rows s 0 k ++ (entry s j ∷ [])) z in
      ap₂ (λ (x y : List ℕ). x ++ y) (lines_table at k (omega arith)) (ap₂ (λ (x y : ℕ). le 4 x ++ le 4 y) (ends_bodies at k (omega arith)) (sym l))
      ∙ sym (table_snoc at (rows s 0 k) (entry s k))
      ∙ ap (table at) (sym e)

  new_long : length (value_of s ++ (body_of b ∷ [])) ≡ count s + 1
  new_long = length-append (value_of s) (body_of b ∷ []) ∙ ap (λ (k : ℕ). k + 1) (length_rows s 0 (count s))

  -- where the contents end, and the bodies from there on
  abbrev from : ℕ
  from = 6 + width * count s

  old_bodies : bodies (value_of s) ≡ drop from s
  old_bodies = bodies_back s bs a (count s) 0 (omega arith) ∙ ap (λ (k : ℕ). drop k s) (ends_zero s)

  pub low : from ≤ length s
  low =
      let z : ends s 0 ≡ 6 + 8 * count s = ends_zero s in
      let w : ends s (count s) ≡ length s = a.listed.whole in
      go (dec_lt 0 (count s))
    where
      go : Dec (0 < count s) → from ≤ length s
      go (yes h) =
          let z : ends s 0 ≡ 6 + 8 * count s = ends_zero s in
          let st : start_at s 0 ≡ ends s 0 = a.listed.starts 0 h in
          let i : start_at s 0 + length_at s 0 ≤ length s = inside s 0 a.listed h in
          omega arith
      go (no h) =
          let z : ends s 0 ≡ 6 + 8 * count s = ends_zero s in
          let c : count s ≡ 0 = omega arith in
          let w : ends s (count s) ≡ length s = a.listed.whole in
          let e : ends s (count s) ≡ ends s 0 = ap (ends s) c in
          omega arith

  pub new_book_lem : new_book s b
      ≡ mark ++ ((((le 2 (count s + 1) ++ lines s (6 + width * suc (count s)) (count s)) ++ (le 4 (length s + width) ++ le 4 (length b))) ++ drop from s) ++ b)
  unfolding bytes_of_book
  new_book_lem =
      let n : length (value_of s ++ (body_of b ∷ [])) ≡ count s + 1 = new_long in
      let q : 6 + width * (count s + 1) ≡ 6 + width * suc (count s) = omega arith in
      let at : ℕ = 6 + width * suc (count s) in
      let o : body_bytes (body_of b) ≡ b = body_back b bb f.size in
      let l : length (bodies (value_of s)) ≡ length s - from = ap length old_bodies ∙ length-drop from s in
      let u : from ≤ length s = low in
      let e : at + length (bodies (value_of s)) ≡ length s + width = omega arith in
      let t : table at (value_of s ++ (body_of b ∷ [])) ≡ lines s at (count s) ++ (le 4 (length s + width) ++ le 4 (length b)) =
      table_snoc at (value_of s) (body_of b) ∙ ap₂ (λ (x y : List ℕ). x ++ y) (sym (lines_table at (count s) (omega arith)))
      (ap₂ (λ (x y : ℕ). le 4 x ++ le 4 y) e (ap length o)) in
      let v : bodies (value_of s ++ (body_of b ∷ [])) ≡ drop from s ++ b =
      bodies_snoc (value_of s) (body_of b) ∙ ap₂ (λ (x y : List ℕ). x ++ y) old_bodies o in
      ap (λ (k : ℕ). mark ++ (le 2 k ++ (table (6 + width * k) (value_of s ++ (body_of b ∷ [])) ++ bodies (value_of s ++ (body_of b ∷ []))))) n
      ∙ ap (λ (k : ℕ). mark ++ (le 2 (count s + 1) ++ (table k (value_of s ++ (body_of b ∷ [])) ++ bodies (value_of s ++ (body_of b ∷ []))))) q
      ∙ ap₂ (λ (x y : List ℕ). mark ++ (le 2 (count s + 1) ++ (x ++ y))) t v
      ∙ simp append_assoc

  -- the starts of the new contents fit 4 bytes
  pub line_fits : (i : ℕ) → i ≤ count s → line_end s (6 + width * suc (count s)) i ≤ 65544
  unfolding line_end
  line_fits i h =
      let g : (j : ℕ) → line_end s (6 + width * suc (count s)) j ≡ 8 + ends s j = shift in
      let e : line_end s (6 + width * suc (count s)) i ≡ 8 + ends s i = g i in
      let t : length s ≤ 65536 = a.marked.high in
      let w : ends s i ≤ length s = within (dec_lt i (count s)) in
      omega arith
    where
      shift : (j : ℕ) → line_end s (6 + width * suc (count s)) j ≡ 8 + ends s j
      shift zero = let z : ends s 0 ≡ 6 + 8 * count s = ends_zero s in omega arith
      shift (suc j) =
          let i : line_end s (6 + width * suc (count s)) j ≡ 8 + ends s j = shift j in
          let m : ends s (j + 1) ≡ ends s j + length_at s j = ends_more s j in
          let k : ends s (j + 1) ≡ ends s (suc j) = ap (ends s) (add-one j) in
          omega arith

      within : Dec (i < count s) → ends s i ≤ length s
      within (yes u) =
          let st : start_at s i ≡ ends s i = a.listed.starts i u in
          let m : start_at s i + length_at s i ≤ length s = inside s i a.listed u in
          omega arith
      within (no u) = let c : i ≡ count s = omega arith in let w : ends s (count s) ≡ length s = a.listed.whole in let e : ends s i ≡ ends s (count s) = ap (ends s) c in omega arith
