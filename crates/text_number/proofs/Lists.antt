-- A list read number by number, and a line field by field.
--   Numerals steps it s n   n pieces of the list s are taken, and all are numerals; numerals_none, numerals_more, numerals_bad, numerals_end
--   listed_length     a list has as many numbers as its text has pieces
--   Filling s d d' n  d' is d with the first n numbers of the list s in front; filling_none, filling_more, filling_end
use mathlib.Core.Path.{◌≡◌, refl, sym, ap, ◌∙◌, subst}
use mathlib.Core.List.{List, [], ◌∷◌, ◌++◌, map, append_assoc}
use Prim.Native.Nat.{ℕ, suc, ◌+◌, ◌≤◌, ◌<◌}
use native.Mathlib.Numerals.{add-one}
use native.Mathlib.Omega.{arith}
use lib.ListN.{length, get_or, take, drop, set, length-set, length-map, get_or-map}
use lib.Seq.{take_all, take-suc, drop-cons, set_at, length-take-le}
use borrow.Author.Count.{below_more}
use Rattle.text_put.specs.Print.{comma}
use Rattle.text_cut.specs.Pieces.{pieces}
use Rattle.text_number.proofs.Taken.{Left, left_piece, left_none}
use Rattle.std.specs.Prelude.{Option, Some, None}
use denote.Ref.{Bor}
use Rattle.text_number.specs.Grammar.{value, value_from, Numeral, Number, Listed}

-- n pieces of the list s are taken, and all are numerals
pub record Numerals {S : Type 0} (steps : S → Option (Bor (List ℕ)) → S → Type 0) (it : S) (s : List ℕ) (n : ℕ) : Type 0 where
  pub left : Left steps it comma s n
  pub each : (k : ℕ) → k < n → Numeral (get_or (pieces comma s) k [])

pub numerals_none : {S : Type 0} {steps : S → Option (Bor (List ℕ)) → S → Type 0} {it : S} {s : List ℕ} → Left steps it comma s 0 → Numerals steps it s 0
numerals_none a = record { left = a; each = λ k h. absurd (omega arith) }

module _ {S : Type 0} {steps : S → Option (Bor (List ℕ)) → S → Type 0} {it : S} (it' : S) {s : List ℕ} {n : ℕ} (a : Numerals steps it s n) where
  pub numerals_more : (x : Bor (List ℕ)) {v : ℕ} → steps it (Some x) it' → Number x.now v → Numerals steps it' s (n + 1)
  numerals_more x t b =
      let (i, p, r) = left_piece it' a.left x t in
      record { left = r; each = below_more _ _ a.each (subst Numeral (sym p) b.numeral) }

  pub numerals_bad : (x : Bor (List ℕ)) → steps it (Some x) it' → ((m : ℕ) → Number x.now m → ⊥) → (l : List ℕ) → Listed s l → ⊥
  numerals_bad x t b l r =
      let (i, p, q) = left_piece it' a.left x t in
      b (value x.now) record { numeral = subst Numeral p (r.each n i); means = refl }

pub listed_length : {s l : List ℕ} → Listed s l → length l ≡ length (pieces comma s)
listed_length {s} r = ap length r.means ∙ length-map (pieces comma s) value

pub numerals_end : {S : Type 0} {steps : S → Option (Bor (List ℕ)) → S → Type 0} {it : S} (it' : S) {s : List ℕ} {n : ℕ} → Numerals steps it s n → steps it None it'
    → (l : List ℕ) × Listed s l × (length l ≡ n)
numerals_end it' {s} {n} a t =
    let e = left_none it' a.left t in
    let r : Listed s (map value (pieces comma s)) = record { each = λ k q. a.each k (omega arith); means = refl } in
    (map value (pieces comma s), r, listed_length r ∙ sym e)

-- ---- the numbers of a list, put in front of a slice
pub record Filling (s d d' : List ℕ) (n : ℕ) : Type 0 where
  pub same : length d' ≡ length d
  pub front : (l : List ℕ) → Listed s l → d' ≡ take n l ++ drop n d

pub filling_none : (s d : List ℕ) → Filling s d d 0
filling_none s d = record { same = refl; front = λ l r. refl }

-- entry n of a list is what its piece n stands for
pub entry_value : (s l : List ℕ) (n : ℕ) → Listed s l → get_or l n 0 ≡ value (get_or (pieces comma s) n [])
unfolding value_from
entry_value s l n r = ap (λ (z : List ℕ). get_or z n 0) r.means ∙ get_or-map value (pieces comma s) n []

set_front : (l d : List ℕ) (n v : ℕ) → n < length l → n < length d → v ≡ get_or l n 0 → set (take n l ++ drop n d) n v ≡ take (n + 1) l ++ drop (n + 1) d
set_front l d n v h k e =
    ap (λ (z : List ℕ). set (take n l ++ z) n v) (drop-cons d n 0 k)
    ∙ set_at (take n l) (get_or d n 0) (drop (suc n) d) v n (length-take-le n l (omega arith))
    ∙ ap (λ (x : ℕ). take n l ++ x ∷ drop (suc n) d) e
    ∙ sym (append_assoc (take n l) (get_or l n 0 ∷ []) (drop (suc n) d))
    ∙ ap (λ (z : List ℕ). z ++ drop (suc n) d) (sym (take-suc l n 0 h))
    ∙ ap (λ (j : ℕ). take j l ++ drop j d) (sym (add-one n))

pub filling_more : (s d d' : List ℕ) (n v : ℕ) → n < length (pieces comma s) → length (pieces comma s) ≤ length d
    → ((m : ℕ) → Number (get_or (pieces comma s) n []) m → v ≡ m) → Filling s d d' n → Filling s d (set d' n v) (n + 1)
filling_more s d d' n v h k w a = record { same = length-set d' n v ∙ a.same; front = next }
  where
    next : (l : List ℕ) → Listed s l → set d' n v ≡ take (n + 1) l ++ drop (n + 1) d
    next l r =
        let e : length l ≡ length (pieces comma s) = listed_length r in
        let x : v ≡ get_or l n 0 = w (value (get_or (pieces comma s) n [])) record { numeral = r.each n h; means = refl } ∙ sym (entry_value s l n r) in
        ap (λ (z : List ℕ). set z n v) (a.front l r) ∙ set_front l d n v (omega arith) (omega arith) x

pub filling_end : (s d d' : List ℕ) (n : ℕ) → n ≡ length (pieces comma s) → Filling s d d' n → (l : List ℕ) → Listed s l → d' ≡ l ++ drop (length l) d
filling_end s d d' n e a l r =
    let k : n ≡ length l = e ∙ sym (listed_length r) in
    a.front l r ∙ ap (λ (j : ℕ). take j l ++ drop j d) k ∙ ap (λ (z : List ℕ). z ++ drop (length l) d) (take_all (length l) l (omega arith))
