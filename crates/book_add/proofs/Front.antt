-- The book at the front of the slice: there is room for its new contents, and the bytes that the code leaves are the new book.
use mathlib.Core.Path.{◌≡◌, sym, ap, ap₂, ◌∙◌}
use mathlib.Core.List.{List, [], ◌∷◌, ◌++◌}
use Prim.Native.Nat.{ℕ, zero, suc, ◌+◌, ◌-◌, ◌*◌, ◌<◌, ◌≤◌}
use native.Mathlib.Omega.{arith}
use lib.ListN.{length, get_or, take, drop}
use lib.Seq.{take-take, get_or-take, length-take-le}
use Rattle.book_bytes.specs.Bytes.{le, u2, u4, Bytes}
use Rattle.book_bytes.proofs.Read.{val2, val4}
use Rattle.base_lists.proofs.Pieces.{drop_take}
use Rattle.book_body.specs.Body.{Formed}
use Rattle.book_check.specs.Book.{mark, width, count, length_at, Accepted}
use Rattle.book_put.specs.Code.{new_length, line_end, lines, new_bytes, Place}
use Rattle.book_put.proofs.Lines.{line_end_same, lines_same}
use Rattle.book_add.specs.Add.{new_book}
use Rattle.book_add.proofs.New.{new_book_lem, line_fits, low}

u4_take : (n k : ℕ) (d : List ℕ) → k + 4 ≤ n → u4 (take n d) k ≡ u4 d k
u4_take n k d h =
    let a0 : get_or (take n d) k 0 ≡ get_or d k 0 = get_or-take n d k 0 (omega arith) in
    let a1 : get_or (take n d) (k + 1) 0 ≡ get_or d (k + 1) 0 = get_or-take n d (k + 1) 0 (omega arith) in
    let a2 : get_or (take n d) (k + 2) 0 ≡ get_or d (k + 2) 0 = get_or-take n d (k + 2) 0 (omega arith) in
    let a3 : get_or (take n d) (k + 2 + 1) 0 ≡ get_or d (k + 2 + 1) 0 = get_or-take n d (k + 2 + 1) 0 (omega arith) in
    let l : u4 (take n d) k ≡ u2 (take n d) k + 65536 * u2 (take n d) (k + 2) = val4 (take n d) k in
    let m : u4 d k ≡ u2 d k + 65536 * u2 d (k + 2) = val4 d k in
    let l0 : u2 (take n d) k ≡ get_or (take n d) k 0 + 256 * get_or (take n d) (k + 1) 0 = val2 (take n d) k in
    let l2 : u2 (take n d) (k + 2) ≡ get_or (take n d) (k + 2) 0 + 256 * get_or (take n d) (k + 2 + 1) 0 = val2 (take n d) (k + 2) in
    let m0 : u2 d k ≡ get_or d k 0 + 256 * get_or d (k + 1) 0 = val2 d k in
    let m2 : u2 d (k + 2) ≡ get_or d (k + 2) 0 + 256 * get_or d (k + 2 + 1) 0 = val2 d (k + 2) in
    omega arith

pub bytes_take : (n : ℕ) (l : List ℕ) → Bytes l → Bytes (take n l)
bytes_take zero l h j = omega arith
bytes_take (suc n) [] h j = h j
bytes_take (suc n) (x ∷ l) h zero = h 0
bytes_take (suc n) (x ∷ l) h (suc j) = bytes_take n l (λ k. h (suc k)) j

module _ (d : List ℕ) (n : ℕ) (b : List ℕ) (c : ℕ) (bd : Bytes d) (bb : Bytes b) (h : n ≤ length d)
    (a : Accepted (take n d)) (f : Formed b) (e : c ≡ count (take n d)) where
  abbrev s : List ℕ
  s = take n d

  long : length s ≡ n
  long = length-take-le n d h

  bs : Bytes s
  bs = bytes_take n d bd

  low_here : 6 + width * c ≤ n
  low_here = let l : 6 + width * count s ≤ length s = low s b bs bb a f in let m : length s ≡ n = long in omega arith

  lengths_here : (j : ℕ) → j < c → length_at d j ≡ length_at s j
  lengths_here j u = let l : 6 + width * c ≤ n = low_here in sym (u4_take n (10 + width * j) d (omega arith))

  -- there is room for the new contents
  pub place_of : new_length n b ≤ length d → new_length n b ≤ 65536 → Place d n c b
  place_of r t = record {
    low = low_here;
    room = r;
    top = t;
    fits = λ i u.
        (let g : line_end d (6 + width * suc c) i ≡ line_end s (6 + width * suc c) i = line_end_same d s (6 + width * suc c) i (λ j v. lengths_here j (omega arith)) in
        let k : line_end s (6 + width * suc c) i ≡ line_end s (6 + width * suc (count s)) i = ap (λ (m : ℕ). line_end s (6 + width * suc m) i) e in
        let l : line_end s (6 + width * suc (count s)) i ≤ 65544 = line_fits s b bs bb a f i (omega arith) in
        omega arith);
  }

  -- the bytes that the code leaves are the new book
  pub new_of : new_bytes d n c b ≡ new_book s b
  unfolding new_bytes
  new_of =
      let l : 6 + width * c ≤ n = low_here in
      let m : take 4 d ≡ mark = sym (take-take 4 n d (omega arith)) ∙ a.marked.mark in
      let g : lines d (6 + width * suc c) c ≡ lines s (6 + width * suc c) c = lines_same d s (6 + width * suc c) c lengths_here in
      let B : take (n - (6 + width * c)) (drop (6 + width * c) d) ≡ drop (6 + width * c) s = sym (drop_take (6 + width * c) n d) in
      ap (λ (u : List ℕ). u ++ ((((le 2 (c + 1) ++ lines d (6 + width * suc c) c) ++ (le 4 (n + width) ++ le 4 (length b))) ++ take (n - (6 + width * c)) (drop (6 + width * c) d)) ++ b)) m
      ∙ ap₂ (λ (u v : List ℕ). mark ++ ((((le 2 (c + 1) ++ u) ++ (le 4 (n + width) ++ le 4 (length b))) ++ v) ++ b)) g B
      ∙ ap (λ (k : ℕ). mark ++ ((((le 2 (c + 1) ++ lines s (6 + width * suc c) c) ++ (le 4 (k + width) ++ le 4 (length b))) ++ drop (6 + width * c) s) ++ b)) (sym long)
      ∙ ap (λ (k : ℕ). mark ++ ((((le 2 (k + 1) ++ lines s (6 + width * suc k) k) ++ (le 4 (length s + width) ++ le 4 (length b))) ++ drop (6 + width * k) s) ++ b)) e
      ∙ sym (new_book_lem s b bs bb a f)
