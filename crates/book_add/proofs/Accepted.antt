-- After a body is added the new book is accepted, and it says the old bodies and the new one.
use mathlib.Core.Path.{◌≡◌, refl, sym, ap, ◌∙◌, subst}
use mathlib.Core.List.{List, [], ◌∷◌, ◌++◌}
use Prim.Native.Nat.{ℕ, zero, suc, ◌+◌, ◌-◌, ◌*◌, ◌<◌, ◌≤◌}
use native.Mathlib.Omega.{arith}
use native.Mathlib.Decide.{dec_lt}
use lib.ListN.{length, take, drop, length-append, length-drop, get_or-append}
use lib.Seq.{get_or-append_seam, length-take-le, take_at}
use Rattle.book_bytes.specs.Bytes.{le, Bytes}
use Rattle.book_bytes.proofs.Read.{length_le2, length_le4}
use Rattle.base_answers.specs.Said.{Said}
use Rattle.base_answers.proofs.Said.{number_of}
use Rattle.book_body.specs.Body.{Body, Rule, FieldSays, OneField, body_of, Finished}
use Rattle.book_check.specs.Book.{mark, width, count, length_at, entry, Accepted}
use Rattle.book_check.specs.Value.{value_of, none, at, Obeys}
use Rattle.book_check.proofs.Value.{length_rows, at_rows, book_obeys}
use Rattle.book_check.proofs.Written.{writing_accepted, value_back}
use Rattle.book_check.proofs.Facts.{told_fine, body_thirteen}
use Rattle.book_may.specs.May.{Unlisted}
use Rattle.book_put.specs.Code.{new_length, line_end, lines}
use Rattle.book_add.specs.Add.{new_book, AddTells, length_out, book, body, known, short, added}
use Rattle.book_add.proofs.New.{low, new_book_lem}
use Rattle.book_add.proofs.Front.{bytes_take}

lines_long : (s : List ℕ) (at i : ℕ) → length (lines s at i) ≡ 8 * i
unfolding lines le
lines_long s at zero = refl
lines_long s at (suc i) =
    let e : length (lines s at i) ≡ 8 * i = lines_long s at i in
    let f : length (lines s at i ++ (le 4 (line_end s at i) ++ le 4 (length_at s i))) ≡ length (lines s at i) + 8 = length-append (lines s at i) (le 4 (line_end s at i) ++ le 4 (length_at s i)) in
    omega arith

module _ (s b : List ℕ) (bs : Bytes s) (bb : Bytes b) (a : Accepted s) (f : Finished b) where
  abbrev new : List Body
  new = value_of s ++ (body_of b ∷ [])

  pub new_length_lem : length (new_book s b) ≡ new_length (length s) b
  new_length_lem =
      let from : ℕ = 6 + width * count s in
      let x : List ℕ = lines s (6 + width * suc (count s)) (count s) in
      let y : List ℕ = le 4 (length s + width) ++ le 4 (length b) in
      let u : from ≤ length s = low s b bs bb a f.formed in
      let l0 : length (new_book s b) ≡ length (mark ++ ((((le 2 (count s + 1) ++ x) ++ y) ++ drop from s) ++ b)) = ap length (new_book_lem s b bs bb a f.formed) in
      let l1 : length (mark ++ ((((le 2 (count s + 1) ++ x) ++ y) ++ drop from s) ++ b)) ≡ 4 + length ((((le 2 (count s + 1) ++ x) ++ y) ++ drop from s) ++ b) = length-append mark ((((le 2 (count s + 1) ++ x) ++ y) ++ drop from s) ++ b) in
      let l2 : length ((((le 2 (count s + 1) ++ x) ++ y) ++ drop from s) ++ b) ≡ length (((le 2 (count s + 1) ++ x) ++ y) ++ drop from s) + length b = length-append (((le 2 (count s + 1) ++ x) ++ y) ++ drop from s) b in
      let l3 : length (((le 2 (count s + 1) ++ x) ++ y) ++ drop from s) ≡ length ((le 2 (count s + 1) ++ x) ++ y) + length (drop from s) = length-append ((le 2 (count s + 1) ++ x) ++ y) (drop from s) in
      let l4 : length ((le 2 (count s + 1) ++ x) ++ y) ≡ length (le 2 (count s + 1) ++ x) + length y = length-append (le 2 (count s + 1) ++ x) y in
      let l5 : length (le 2 (count s + 1) ++ x) ≡ length (le 2 (count s + 1)) + length x = length-append (le 2 (count s + 1)) x in
      let l6 : length y ≡ length (le 4 (length s + width)) + length (le 4 (length b)) = length-append (le 4 (length s + width)) (le 4 (length b)) in
      let d : length (drop from s) ≡ length s - from = length-drop from s in
      let e0 : length (le 2 (count s + 1)) ≡ 2 = length_le2 (count s + 1) in
      let e1 : length (le 4 (length s + width)) ≡ 4 = length_le4 (length s + width) in
      let e2 : length (le 4 (length b)) ≡ 4 = length_le4 (length b) in
      let e3 : length x ≡ 8 * count s = lines_long s (6 + width * suc (count s)) (count s) in
      omega arith

  -- ---- the old bodies stand where they stood, and the new one stands last
  old_long : length (value_of s) ≡ count s
  old_long = length_rows s 0 (count s)

  new_long : length new ≡ count s + 1
  new_long = length-append (value_of s) (body_of b ∷ []) ∙ ap (λ (k : ℕ). k + 1) old_long

  old_at : (i : ℕ) → i < count s → at new i ≡ at (value_of s) i
  old_at i h = let l : length (value_of s) ≡ count s = old_long in get_or-append (value_of s) (body_of b ∷ []) none i (omega arith)

  last_at : at new (count s) ≡ body_of b
  last_at = ap (at new) (sym old_long) ∙ get_or-append_seam (value_of s) (body_of b) [] none

  -- what holds of the old bodies and of the new one holds of all
  each : (P : Body → Type 0) → ((i : ℕ) → i < count s → P (at (value_of s) i)) → P (body_of b) → (i : ℕ) → i < length new → P (at new i)
  each P g l i h = go (dec_lt i (count s))
    where
      go : Dec (i < count s) → P (at new i)
      go (yes u) = subst P (sym (old_at i u)) (g i u)
      go (no u) = let n : length new ≡ count s + 1 = new_long in let e : count s ≡ i = omega arith in subst P (sym (ap (at new) (sym e) ∙ last_at)) l

  new_obeys : new_length (length s) b ≤ 65536 → Unlisted s b → Obeys new
  new_obeys top un =
      let o : Obeys (value_of s) = book_obeys s bs a in
      let l : length (value_of s) ≡ count s = old_long in
      let n : length new ≡ count s + 1 = new_long in
      record {
        size = (let e : length (new_book s b) ≡ new_length (length s) b = new_length_lem in omega arith);
        rule = each Rule (λ i h. o.rule i (omega arith)) f.formed.rule;
        field = each (λ (r : Body). FieldSays r 0) (λ i h. o.field i (omega arith)) f.field;
        once = λ i j h u w. (let v : j < count s = omega arith in once i j h v u (dec_lt i (count s)) (subst (OneField (at new i)) (old_at j v) w));
      }
    where
      once : (i j : ℕ) → i < length new → j < count s → j < i → Dec (i < count s) → OneField (at new i) (at (value_of s) j) → ⊥
      once i j h v u (yes k) w =
          let l : length (value_of s) ≡ count s = old_long in
          (book_obeys s bs a).once i j (omega arith) u (subst (λ (r : Body). OneField r (at (value_of s) j)) (old_at i k) w)
      once i j h v u (no k) w =
          let n : length new ≡ count s + 1 = new_long in
          let e : count s ≡ i = omega arith in
          let z : 0 + j ≡ j = omega arith in
          un j v (subst (OneField (body_of b)) (at_rows s 0 (count s) j v ∙ ap (entry s) z) (subst (λ (r : Body). OneField r (at (value_of s) j)) (ap (at new) (sym e) ∙ last_at) w))

-- ---- the theorem
module _ (d : List ℕ) (n : ℕ) (b : List ℕ) (bd : Bytes d) (bb : Bytes b) where
  -- the bytes of the new length at the front of the slice, where nothing was refused
  pub added_accepted : {x : Said} {e : List ℕ} → AddTells d n b x e → x.number ≡ 0
      → Accepted (take (new_length n b) e) × (value_of (take (new_length n b) e) ≡ value_of (take n d) ++ (body_of b ∷ []))
  added_accepted (length_out h p q) z = let u = number_of p in absurd (omega arith)
  added_accepted (book h g t q) z = absurd (g (told_fine t z))
  added_accepted (body h a t q) z = let u = body_thirteen t in absurd (omega arith)
  added_accepted (known h a f j l o p q) z = let u = number_of p in absurd (omega arith)
  added_accepted (short h a f l r p q) z = let u = number_of p in absurd (omega arith)
  added_accepted {x} {e} (added h a f un r m p q) z =
      let s : List ℕ = take n d in
      let bs : Bytes s = bytes_take n d bd in
      let k : length s ≡ n = length-take-le n d h in
      let l : length (new_book s b) ≡ new_length n b = new_length_lem s b bs bb a f ∙ ap (λ (i : ℕ). new_length i b) k in
      let o : Obeys (value_of s ++ (body_of b ∷ [])) = new_obeys s b bs bb a f (omega arith) un in
      let w : take (new_length n b) e ≡ new_book s b = ap (take (new_length n b)) q ∙ take_at (new_book s b) (drop (new_length n b) d) (new_length n b) l in
      (subst Accepted (sym w) (writing_accepted (value_of s ++ (body_of b ∷ [])) o), ap value_of w ∙ value_back (value_of s ++ (body_of b ∷ [])) o)
