-- A text's pieces, one after the other, as an iterator over them gives them.
--   Left steps it c s n   at `it` the pieces of s from piece n on, then nothing; left_all, left_split, left_piece, left_none
--   Numbered steps it c s n   the same, each with its number; numbered_all, numbered_piece, numbered_none
--   few_pieces   a text has at most one piece more than bytes
use mathlib.Core.Path.{◌≡◌, refl, sym, ap, ◌∙◌, subst}
use mathlib.Core.Bool.{Bool, true, false}
use mathlib.Core.List.{List, [], ◌∷◌}
use Prim.Native.Nat.{ℕ, suc, ◌+◌, ◌≤◌, ◌<◌}
use native.Mathlib.Omega.{arith}
use native.Mathlib.Numerals.{add-one}
use denote.Param.Members.{Mut}
use Rattle.std.specs.declared.slice.Split.{Split}
use Rattle.std.specs.Fn.{CalledAt}
use Rattle.std.specs.Iterator.Runs.{Run, EachRunFrom}
use Rattle.std.specs.Slice.Iter.{split_steps, split_rest, split_done, split_callee}
use Rattle.std.proofs.lemmas.Iterator.Splits.{YieldsList-from_slice_split}
use Rattle.std.specs.declared.iter.Enumerate.{Enumerate}
use denote.Ref.{Bor}
use lib.Dec.{eqb}
use lib.ListN.{length, get_or, drop, length-drop}
use borrow.Author.Tests.{eqb-true, eqb-false}
use Rattle.std.specs.Prelude.{Option, Some, None, cond}
use Rattle.std.specs.List.{slice_split, onto_first}
use Rattle.std.specs.Iterator.{AlwaysYields}
use Rattle.std.specs.Iterator.Adapters.{enumerate_source, enumerate_count, enumerate_steps}
use Rattle.std.proofs.lemmas.Iterator.{YieldsList}
use Rattle.text_cut.specs.Pieces.{ahead, pieces}
use Rattle.text_cut.proofs.Cuts.{head_of, pieces_none, pieces_hit, pieces_miss, pieces_some}

pub record Left {S : Type 0} (steps : S → Option (Bor (List ℕ)) → S → Type 0) (it : S) (c : ℕ) (s : List ℕ) (n : ℕ) : Type 0 where
  pub inside : n ≤ length (pieces c s)
  pub gives : YieldsList steps (λ x. x.now) it (drop n (pieces c s))

onto_is : (x : ℕ) (ps : List (List ℕ)) → onto_first x ps ≡ ahead x ps
unfolding ahead
onto_is x [] = refl
onto_is x (p ∷ ps) = refl

as_split : (c : ℕ) (s : List ℕ) → slice_split (λ b. eqb b c) s ≡ pieces c s
as_split c [] = sym (pieces_none c)
as_split c (x ∷ s) = go (eqb x c) refl (as_split c s)
  where
    go : (b : Bool) → eqb x c ≡ b → slice_split (λ b. eqb b c) s ≡ pieces c s
        → cond b ([] ∷ slice_split (λ b. eqb b c) s) (onto_first x (slice_split (λ b. eqb b c) s)) ≡ pieces c (x ∷ s)
    go true e h = ap (λ z. [] ∷ z) h ∙ sym (pieces_hit c x s (eqb-true x c e))
    go false e h = ap (onto_first x) h ∙ onto_is x (pieces c s) ∙ sym (pieces_miss c x s (eqb-false x c e))

pub left_all : {S : Type 0} {steps : S → Option (Bor (List ℕ)) → S → Type 0} {it : S} {c : ℕ} {s : List ℕ} → YieldsList steps (λ x. x.now) it (slice_split (λ b. eqb b c) s) → Left steps it c s 0
left_all {steps = steps} {it} {c} {s} y = record { inside = omega arith; gives = subst (YieldsList steps (λ x. x.now) it) (as_split c s) y }

-- a text split where a closure finds the byte c: the first fact is the clause `runs` of the call
pub left_split : {F : Type 0} {g : Mut F (Bor ℕ × Unit {0}) Bool} {f : F} {it it' : Split ℕ F} {Q : Run (split_steps g) → Type 0} (c : ℕ) (s : List ℕ) → EachRunFrom (split_steps g) it Q
    → it' ≡ it → split_rest it ≡ s → split_done it ≡ false → split_callee it ≡ f → ((x : ℕ) (b : Bool) (q : F) → CalledAt g f x b q → (q ≡ f) × (b ≡ eqb x c)) → Left (split_steps g) it' c s 0
left_split {g = g} c s runs e a b d k = left_all (YieldsList-from_slice_split g (λ x. eqb x c) s (ap split_rest e ∙ a) (ap split_done e ∙ b) (ap split_callee e ∙ d) k)

module _ {S : Type 0} (steps : S → Option (Bor (List ℕ)) → S → Type 0) where
  -- what is left gives a piece, or nothing
  gives_piece : {it it' : S} {x : Bor (List ℕ)} (ps : List (List ℕ)) → AlwaysYields steps (λ x. x.now) it ps → steps it (Some x) it'
      → (qs : List (List ℕ)) × (ps ≡ x.now ∷ qs) × AlwaysYields steps (λ x. x.now) it' qs
  gives_piece [] y t = absurd (y _ _ t)
  gives_piece (p ∷ ps) y t = let u = y.1 _ _ t in (ps, ap (λ z. z ∷ ps) (sym u.0), u.1)

  gives_none : {it it' : S} (ps : List (List ℕ)) → AlwaysYields steps (λ x. x.now) it ps → steps it None it' → length ps ≡ 0
  gives_none [] y t = refl
  gives_none (p ∷ ps) y t = absurd (y.0 _ t)

module _ {S : Type 0} {steps : S → Option (Bor (List ℕ)) → S → Type 0} {it : S} (it' : S) {c : ℕ} {s : List ℕ} {n : ℕ} (a : Left steps it c s n) where
  pub left_piece : (x : Bor (List ℕ)) → steps it (Some x) it' → (n < length (pieces c s)) × (get_or (pieces c s) n [] ≡ x.now) × Left steps it' c s (n + 1)
  left_piece x t =
      let (qs, e, y) = gives_piece steps (drop n (pieces c s)) a.gives.runs t in
      let (i, p, r) = head_of n (pieces c s) e in
      (i, p, record { inside = omega arith; gives = record { runs = subst (AlwaysYields steps (λ x. x.now) it') (sym r) y } })

  pub left_none : steps it None it' → n ≡ length (pieces c s)
  left_none t =
      let l = length-drop n (pieces c s) in
      let z = gives_none steps (drop n (pieces c s)) a.gives.runs t in
      let i = a.inside in
      omega arith

pub few_pieces : (c : ℕ) (s : List ℕ) → length (pieces c s) ≤ length s + 1
unfolding ahead
few_pieces c [] = let e = ap length (pieces_none c) in omega arith
few_pieces c (x ∷ s) = go (eqb x c) refl (few_pieces c s) (pieces_some c s)
  where
    go : (b : Bool) → eqb x c ≡ b → length (pieces c s) ≤ length s + 1 → (p : List ℕ) × (ps : List (List ℕ)) × (pieces c s ≡ p ∷ ps) → length (pieces c (x ∷ s)) ≤ length (x ∷ s) + 1
    go true e h r = let l = ap length (pieces_hit c x s (eqb-true x c e)) in omega arith
    go false e h r = let l = ap length (pieces_miss c x s (eqb-false x c e) ∙ ap (ahead x) r.2) in let k = ap length r.2 in omega arith

-- ---- each piece with its number
abbrev pub numbered : ℕ → List (List ℕ) → List (ℕ × List ℕ)
numbered i [] = []
numbered i (p ∷ ps) = (i, p) ∷ numbered (suc i) ps

abbrev pub shown : ℕ × Bor (List ℕ) → ℕ × List ℕ
shown x = (x.0, x.1.now)

pub record Numbered {S : Type 0} (steps : S → Option (ℕ × Bor (List ℕ)) → S → Type 0) (it : S) (c : ℕ) (s : List ℕ) (n : ℕ) : Type 0 where
  pub inside : n ≤ length (pieces c s)
  pub gives : YieldsList steps shown it (numbered n (drop n (pieces c s)))

counted : {S : Type 0} (steps : S → Option (Bor (List ℕ)) → S → Type 0) (i : ℕ) (ps : List (List ℕ)) (it : Enumerate S) → enumerate_count it ≡ i
    → AlwaysYields steps (λ x. x.now) (enumerate_source it) ps → AlwaysYields (enumerate_steps steps) shown it (numbered i ps)
counted steps i [] it e y = λ x j t. y x.1 (enumerate_source j) t.0
counted steps i (p ∷ ps) it e y = (
  (λ j t. y.0 (enumerate_source j) t.0),
  λ x j t. let u = y.1 x.1 (enumerate_source j) t.0 in
      ((λ k. ((t.1 ∙ e) k, u.0 k)), counted steps (suc i) ps j (t.2 ∙ ap (λ k. k + 1) e ∙ add-one i) u.1),
)

pub numbered_all : {S : Type 0} {steps : S → Option (Bor (List ℕ)) → S → Type 0} {it : Enumerate S} {c : ℕ} {s : List ℕ} → enumerate_count it ≡ 0 → Left steps (enumerate_source it) c s 0
    → Numbered (enumerate_steps steps) it c s 0
numbered_all {steps = steps} {it} {c} {s} e a = record { inside = omega arith; gives = record { runs = counted steps 0 (pieces c s) it e a.gives.runs } }

module _ {S : Type 0} (steps : S → Option (ℕ × Bor (List ℕ)) → S → Type 0) where
  numbered_first : {it it' : S} {x : ℕ × Bor (List ℕ)} (i : ℕ) (ps : List (List ℕ)) → AlwaysYields steps shown it (numbered i ps) → steps it (Some x) it'
      → (x.0 ≡ i) × (qs : List (List ℕ)) × (ps ≡ x.1.now ∷ qs) × AlwaysYields steps shown it' (numbered (suc i) qs)
  numbered_first i [] y t = absurd (y _ _ t)
  numbered_first i (p ∷ ps) y t = let u = y.1 _ _ t in (ap (λ z. z.0) u.0, ps, ap (λ z. z.1 ∷ ps) (sym u.0), u.1)

  numbered_last : {it it' : S} (i : ℕ) (ps : List (List ℕ)) → AlwaysYields steps shown it (numbered i ps) → steps it None it' → length ps ≡ 0
  numbered_last i [] y t = refl
  numbered_last i (p ∷ ps) y t = absurd (y.0 _ t)

module _ {S : Type 0} {steps : S → Option (ℕ × Bor (List ℕ)) → S → Type 0} {it : S} (it' : S) {c : ℕ} {s : List ℕ} {n : ℕ} (a : Numbered steps it c s n) where
  pub numbered_piece : (x : ℕ × Bor (List ℕ)) → steps it (Some x) it'
      → (x.0 ≡ n) × (n < length (pieces c s)) × (get_or (pieces c s) n [] ≡ x.1.now) × Numbered steps it' c s (n + 1)
  numbered_piece x t =
      let (k, qs, e, y) = numbered_first steps n (drop n (pieces c s)) a.gives.runs t in
      let (i, p, r) = head_of n (pieces c s) e in
      (k, i, p, record { inside = omega arith; gives = record { runs = subst (λ z. AlwaysYields steps shown it' (numbered (n + 1) z)) (sym r) (subst (λ z. AlwaysYields steps shown it' (numbered z qs)) (sym (add-one n)) y) } })

  pub numbered_none : steps it None it' → n ≡ length (pieces c s)
  numbered_none t =
      let l = length-drop n (pieces c s) in
      let z = numbered_last steps n (drop n (pieces c s)) a.gives.runs t in
      let i = a.inside in
      omega arith
