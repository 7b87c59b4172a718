-- A body: its bytes say the value that was written, and the writing of what bytes say is those bytes.
use mathlib.Core.Path.{◌≡◌, refl, sym, ap, ◌∙◌}
use mathlib.Core.List.{List, [], ◌++◌}
use Prim.Native.Nat.{ℕ, ◌+◌, ◌*◌}
use native.Mathlib.Omega.{arith}
use lib.ListN.{length, drop, length-append, drop_of_length-le}
use Rattle.book_bytes.specs.Bytes as bytes
use Rattle.book_bytes.specs.Bytes.{le, words, u2, u4, Bytes}
use Rattle.book_bytes.proofs.Lists.{length_list}
use Rattle.book_bytes.proofs.Read.{peel, peel_list, val_le2, val_le4, next_list, read_list, length_words}
use Rattle.book_body.specs.Body.{Body, list_start, list_at, body_of, body_bytes}
use Rattle.book_body.proofs.Field.{Fits}

-- the lists' starts are in order
module _ (s : List ℕ) (b : Bytes s) (e : length s ≡ list_start s 5) where
  pub body_back : body_bytes (body_of s) ≡ s
  unfolding body_bytes body_of bytes.list_start
  body_back =
      let f0 : length (list_at s 0) ≡ u2 s 2 = length_list 16 2 s 0 in
      let f1 : length (list_at s 1) ≡ u2 s 4 = length_list 16 2 s 1 in
      let f2 : length (list_at s 2) ≡ u2 s 6 = length_list 16 2 s 2 in
      let f3 : length (list_at s 3) ≡ u2 s 8 = length_list 16 2 s 3 in
      let f4 : length (list_at s 4) ≡ u2 s 10 = length_list 16 2 s 4 in
      let z : drop (list_start s 5) s ≡ [] = drop_of_length-le s {i = list_start s 5} (omega arith) in
      let g4 : words (list_at s 4) ++ [] ≡ drop (list_start s 4) s =
      sym (peel_list (u2 s 10) (list_start s 4) s b (omega arith) ∙ ap (λ (q : List ℕ). words (list_at s 4) ++ q) z) in
      let g3 : words (list_at s 3) ++ drop (list_start s 4) s ≡ drop (list_start s 3) s = sym (peel_list (u2 s 8) (list_start s 3) s b (omega arith)) in
      let g2 : words (list_at s 2) ++ drop (list_start s 3) s ≡ drop (list_start s 2) s = sym (peel_list (u2 s 6) (list_start s 2) s b (omega arith)) in
      let g1 : words (list_at s 1) ++ drop (list_start s 2) s ≡ drop (list_start s 1) s = sym (peel_list (u2 s 4) (list_start s 1) s b (omega arith)) in
      let g0 : words (list_at s 0) ++ drop (list_start s 1) s ≡ drop 16 s = sym (peel_list (u2 s 2) 16 s b (omega arith)) in
      let h6 : le 4 (u4 s 12) ++ drop 16 s ≡ drop 12 s = sym (peel 4 12 s b (omega arith)) in
      let h5 : le 2 (u2 s 10) ++ drop 12 s ≡ drop 10 s = sym (peel 2 10 s b (omega arith)) in
      let h4 : le 2 (u2 s 8) ++ drop 10 s ≡ drop 8 s = sym (peel 2 8 s b (omega arith)) in
      let h3 : le 2 (u2 s 6) ++ drop 8 s ≡ drop 6 s = sym (peel 2 6 s b (omega arith)) in
      let h2 : le 2 (u2 s 4) ++ drop 6 s ≡ drop 4 s = sym (peel 2 4 s b (omega arith)) in
      let h1 : le 2 (u2 s 2) ++ drop 4 s ≡ drop 2 s = sym (peel 2 2 s b (omega arith)) in
      let h0 : le 2 (u2 s 0) ++ drop 2 s ≡ s = sym (peel 2 0 s b (omega arith)) in
      rw (f0, f1, f2, f3, f4, g4, g3, g2, g1, g0, h6, h5, h4, h3, h2, h1) h0

-- ---- a body: its bytes say the value
abbrev mk : ℕ → List ℕ → List ℕ → ℕ → List ℕ → List ℕ → List ℕ → Body
mk p G H t a b c = record { p = p; G = G; H = H; period = t; E0 = a; E1 = b; E2 = c }

same_row : (p q : ℕ) (G G' H H' : List ℕ) (t u : ℕ) (a a' b b' c c' : List ℕ) → p ≡ q → G ≡ G' → H ≡ H' → t ≡ u → a ≡ a' → b ≡ b' → c ≡ c'
    → mk p G H t a b c ≡ mk q G' H' u a' b' c'
same_row p q G G' H H' t u a a' b b' c c' e1 e2 e3 e4 e5 e6 e7 = rw (e1, e2, e3, e4, e5, e6, e7) refl

module _ (b : Body) (f : Fits b) where
  abbrev w : List ℕ
  w = body_bytes b

  -- what is left of the bytes after the lists before
  r4 : List ℕ
  r4 = words b.E2 ++ []

  r3 : List ℕ
  r3 = words b.E1 ++ r4

  r2 : List ℕ
  r2 = words b.E0 ++ r3

  r1 : List ℕ
  r1 = words b.H ++ r2

  r0 : List ℕ
  r0 = words b.G ++ r1

  size_p : u2 w 0 ≡ b.p
  unfolding body_bytes le
  size_p = val_le2 b.p _ f.p

  size_G : u2 w 2 ≡ length b.G
  unfolding body_bytes le
  size_G = val_le2 (length b.G) _ f.n_g

  size_H : u2 w 4 ≡ length b.H
  unfolding body_bytes le
  size_H = val_le2 (length b.H) _ f.n_h

  size_0 : u2 w 6 ≡ length b.E0
  unfolding body_bytes le
  size_0 = val_le2 (length b.E0) _ f.n0

  size_1 : u2 w 8 ≡ length b.E1
  unfolding body_bytes le
  size_1 = val_le2 (length b.E1) _ f.n1

  size_2 : u2 w 10 ≡ length b.E2
  unfolding body_bytes le
  size_2 = val_le2 (length b.E2) _ f.n2

  size_t : u4 w 12 ≡ b.period
  unfolding body_bytes le
  size_t = val_le4 b.period _ f.period

  tail0 : drop (list_start w 0) w ≡ r0
  unfolding body_bytes le bytes.list_start r0 r1 r2 r3 r4
  tail0 = refl

  tail1 : drop (list_start w 1) w ≡ r1
  unfolding bytes.list_start r0
  tail1 = next_list w (list_start w 0) (u2 w 2) b.G r1 tail0 size_G

  tail2 : drop (list_start w 2) w ≡ r2
  unfolding bytes.list_start r1
  tail2 = next_list w (list_start w 1) (u2 w 4) b.H r2 tail1 size_H

  tail3 : drop (list_start w 3) w ≡ r3
  unfolding bytes.list_start r2
  tail3 = next_list w (list_start w 2) (u2 w 6) b.E0 r3 tail2 size_0

  tail4 : drop (list_start w 4) w ≡ r4
  unfolding bytes.list_start r3
  tail4 = next_list w (list_start w 3) (u2 w 8) b.E1 r4 tail3 size_1

  pub body_reads : body_of (body_bytes b) ≡ b
  unfolding body_of r0 r1 r2 r3 r4
  body_reads =
      same_row (u2 w 0) b.p (list_at w 0) b.G (list_at w 1) b.H (u4 w 12) b.period (list_at w 2) b.E0 (list_at w 3) b.E1 (list_at w 4) b.E2
      size_p
      (read_list w (list_start w 0) (u2 w 2) b.G r1 tail0 size_G f.G)
      (read_list w (list_start w 1) (u2 w 4) b.H r2 tail1 size_H f.H)
      size_t
      (read_list w (list_start w 2) (u2 w 6) b.E0 r3 tail2 size_0 f.E0)
      (read_list w (list_start w 3) (u2 w 8) b.E1 r4 tail3 size_1 f.E1)
      (read_list w (list_start w 4) (u2 w 10) b.E2 [] tail4 size_2 f.E2)

  length_r : (l r : List ℕ) → length (words l ++ r) ≡ 2 * length l + length r
  length_r l r = length-append (words l) r ∙ ap (λ (k : ℕ). k + length r) (length_words l)

  long : length (body_bytes b) ≡ 16 + length r0
  unfolding body_bytes le r0 r1 r2 r3 r4
  long = omega arith

  pub body_size : length (body_bytes b) ≡ list_start (body_bytes b) 5
  unfolding bytes.list_start r0 r1 r2 r3 r4
  body_size =
      let a : length (body_bytes b) ≡ 16 + length r0 = long in
      let l0 : length r0 ≡ 2 * length b.G + length r1 = length_r b.G r1 in
      let l1 : length r1 ≡ 2 * length b.H + length r2 = length_r b.H r2 in
      let l2 : length r2 ≡ 2 * length b.E0 + length r3 = length_r b.E0 r3 in
      let l3 : length r3 ≡ 2 * length b.E1 + length r4 = length_r b.E1 r4 in
      let l4 : length r4 ≡ 2 * length b.E2 + 0 = length_r b.E2 [] in
      let g : u2 w 2 ≡ length b.G = size_G in
      let h : u2 w 4 ≡ length b.H = size_H in
      let x : u2 w 6 ≡ length b.E0 = size_0 in
      let y : u2 w 8 ≡ length b.E1 = size_1 in
      let z : u2 w 10 ≡ length b.E2 = size_2 in
      omega arith
