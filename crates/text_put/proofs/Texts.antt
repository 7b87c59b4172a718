-- Numbers, lists and fields as they are put into a slice.
--   put_small, put_tens    a number of one digit; a number's tens, then its last digit
--   list_none              a list of no numbers
--   tail_text l            the numbers behind a list's first, a comma before each; tail_none, tail_more, tail_end: a loop that puts them,
--                          of whatever width they are
--   as_they_are            numbers that are written as they are
--   first_put              the first n numbers of a list
--   line_put               a field p;G;H
--   refused_put            the answer `refused n`
use mathlib.Core.Path.{◌≡◌, sym, ap, ◌∙◌, subst}
use Rattle.std.proofs.lemmas.List.{map-id, take_min}
use mathlib.Core.List.{List, [], ◌∷◌, ◌++◌, map, map-append, append_assoc, append-nil}
use Prim.Native.Nat.{ℕ, ◌+◌, ◌/◌, ◌%◌, ◌≤◌, ◌<◌, min}
use native.Mathlib.Omega.{arith}
use native.Mathlib.Numerals.{add-one}
use lib.ListN.{length, get_or, take}
use lib.Seq.{take-suc, take_all}
use Rattle.base_lists.specs.Pieces.{Put}
use Rattle.text_put.specs.Print.{comma, semicolon, newline, number_text, join, list_text, line_text, refused_text, refused_word}
use Rattle.base_lists.proofs.Puts.{placed_none, put_then}
use Rattle.text_put.proofs.Digits.{text_small, text_more}

pub put_small : (n : ℕ) {d : List ℕ} {at r : ℕ} {d' : List ℕ} → n < 10 → Put d at ((48 + n % 10) ∷ []) r d' → Put d at (number_text n) r d'
put_small n {d} {at} {r} {d'} h a = subst (λ (x : List ℕ). Put d at x r d') (sym (text_small n h)) a

pub put_tens : (n : ℕ) {d : List ℕ} {at r : ℕ} {d' : List ℕ} {q : ℕ} {e : List ℕ} → 10 ≤ n
    → Put d at (number_text (n / 10)) r d' → Put d' r ((48 + n % 10) ∷ []) q e → Put d at (number_text n) q e
put_tens n {d} {at} {r} {d'} {q} {e} h a b =
    subst (λ (x : List ℕ). Put d at x q e) (sym (text_more n h)) (put_then d at (number_text (n / 10)) r d' ((48 + n % 10) ∷ []) q e a b)

pub list_none : {A : Type 0} (f : A → ℕ) (l : List A) {d : List ℕ} {at : ℕ} → length l ≡ 0 → Put d at (list_text (map f l)) at d
unfolding list_text join
list_none f [] {d} {at} h = placed_none (length d) d at
list_none f (a ∷ l) h = absurd (omega arith)

-- ---- the numbers behind a list's first, a comma before each
unfoldable pub tail_text : List ℕ → List ℕ
tail_text [] = []
tail_text (n ∷ l) = comma ∷ number_text n ++ tail_text l

tail_last : (l : List ℕ) (n : ℕ) → tail_text (l ++ n ∷ []) ≡ tail_text l ++ comma ∷ number_text n
unfolding tail_text
tail_last [] n = ap (λ (z : List ℕ). comma ∷ z) (append-nil (number_text n))
tail_last (x ∷ l) n =
    ap (λ (z : List ℕ). comma ∷ number_text x ++ z) (tail_last l n) ∙ ap (λ (z : List ℕ). comma ∷ z) (sym (append_assoc (number_text x) (tail_text l) (comma ∷ number_text n)))

first_tail : (n : ℕ) (l : List ℕ) → list_text (n ∷ l) ≡ number_text n ++ tail_text l
unfolding list_text join tail_text
first_tail n [] = sym (append-nil (number_text n))
first_tail n (x ∷ l) = ap (λ (z : List ℕ). number_text n ++ comma ∷ z) (first_tail x l)

-- the loop over the numbers behind the first: the first i are put
pub tail_none : (d : List ℕ) (at : ℕ) → Put d at (tail_text []) at d
unfolding tail_text
tail_none d at = placed_none (length d) d at

pub tail_more : {A : Type 0} (f : A → ℕ) (l : List A) (i : ℕ) (x : A) {n : ℕ} {d : List ℕ} {at r : ℕ} {d' : List ℕ} {q : ℕ} {e : List ℕ} {u : ℕ} {g : List ℕ} → i < length l
    → x ≡ get_or l i x → n ≡ f x → Put d at (tail_text (map f (take i l))) r d' → Put d' r (comma ∷ []) q e → Put e q (number_text n) u g
    → Put d at (tail_text (map f (take (i + 1) l))) u g
tail_more f l i x {n} {d} {at} {r} {d'} {q} {e} {u} {g} h y z a b c =
    let t : tail_text (map f (take (i + 1) l)) ≡ tail_text (map f (take i l)) ++ comma ∷ number_text n =
    ap (λ k. tail_text (map f (take k l))) (add-one i) ∙ ap (λ k. tail_text (map f k)) (take-suc l i x h) ∙ ap tail_text (map-append f (take i l) (get_or l i x ∷ []))
    ∙ tail_last (map f (take i l)) (f (get_or l i x)) ∙ ap (λ k. tail_text (map f (take i l)) ++ comma ∷ number_text k) (sym (z ∙ ap f y)) in
    subst (λ (k : List ℕ). Put d at k u g) (sym t)
    (put_then d at (tail_text (map f (take i l))) r d' (comma ∷ number_text n) u g a (put_then d' r (comma ∷ []) q e (number_text n) u g b c))

pub tail_end : {A : Type 0} (f : A → ℕ) (l others : List A) (i : ℕ) (x : A) {n : ℕ} {d : List ℕ} {at r : ℕ} {d' : List ℕ} {q : ℕ} {e : List ℕ} → l ≡ x ∷ others → n ≡ f x
    → length others ≤ i → Put d at (number_text n) r d' → Put d' r (tail_text (map f (take i others))) q e → Put d at (list_text (map f l)) q e
tail_end f l others i x {n} {d} {at} {r} {d'} {q} {e} y z h a b =
    let t : list_text (map f l) ≡ number_text n ++ tail_text (map f (take i others)) =
    ap (λ k. list_text (map f k)) y ∙ first_tail (f x) (map f others) ∙ ap (λ k. number_text k ++ tail_text (map f others)) (sym z)
    ∙ ap (λ k. number_text n ++ tail_text (map f k)) (sym (take_all i others h)) in
    subst (λ (k : List ℕ). Put d at k q e) (sym t) (put_then d at (number_text n) r d' (tail_text (map f (take i others))) q e a b)

pub as_they_are : (l : List ℕ) {d : List ℕ} {at r : ℕ} {d' : List ℕ} → Put d at (list_text (map (λ n. n) l)) r d' → Put d at (list_text l) r d'
as_they_are l {d} {at} {r} {d'} a = subst (λ (x : List ℕ). Put d at (list_text x) r d') (map-id l) a

pub first_put : (l : List ℕ) (n m : ℕ) {d : List ℕ} {at r : ℕ} {d' : List ℕ} → m ≡ min n (length l) → Put d at (list_text (map (λ n. n) (take m l))) r d' → Put d at (list_text (take n l)) r d'
first_put l n m {d} {at} {r} {d'} e a = as_they_are (take n l) (subst (λ x. Put d at (list_text (map (λ n. n) x)) r d') (ap (λ k. take k l) e ∙ take_min n l) a)

module _ (p : ℕ) (G H : List ℕ) {d : List ℕ} {at r₁ : ℕ} {d₁ : List ℕ} {r₂ : ℕ} {d₂ : List ℕ} {r₃ : ℕ} {d₃ : List ℕ} {r₄ : ℕ} {d₄ : List ℕ} {r₅ : ℕ} {d₅ : List ℕ} where
  pub line_put : Put d at (number_text p) r₁ d₁ → Put d₁ r₁ (semicolon ∷ []) r₂ d₂ → Put d₂ r₂ (list_text G) r₃ d₃ → Put d₃ r₃ (semicolon ∷ []) r₄ d₄ → Put d₄ r₄ (list_text H) r₅ d₅
      → Put d at (line_text p G H) r₅ d₅
  unfolding line_text join
  line_put a b c e f =
      let x = put_then d₃ r₃ (semicolon ∷ []) r₄ d₄ (list_text H) r₅ d₅ e f in
      let y = put_then d₂ r₂ (list_text G) r₃ d₃ (semicolon ∷ list_text H) r₅ d₅ c x in
      let z = put_then d₁ r₁ (semicolon ∷ []) r₂ d₂ (list_text G ++ semicolon ∷ list_text H) r₅ d₅ b y in
      put_then d at (number_text p) r₁ d₁ (semicolon ∷ list_text G ++ semicolon ∷ list_text H) r₅ d₅ a z

pub refused_put : (n : ℕ) {d : List ℕ} {at r : ℕ} {d' : List ℕ} {q : ℕ} {e : List ℕ} {u : ℕ} {f : List ℕ}
    → Put d at refused_word r d' → Put d' r (number_text n) q e → Put e q (newline ∷ []) u f → Put d at (refused_text n) u f
unfolding refused_text
refused_put n {d} {at} {r} {d'} {q} {e} {u} {f} a b c =
    put_then d at refused_word r d' (number_text n ++ newline ∷ []) u f a (put_then d' r (number_text n) q e (newline ∷ []) u f b c)
