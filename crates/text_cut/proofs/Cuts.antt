-- A text cut at one byte: the laws of `until` and `pieces`.
--   until_here, until_skip, until_past   `until` from a place on, byte by byte
--   search_here, search_on, search_past  a search from place to place
--   until_take, until_le                 it is the front of the text
--   pieces_none, pieces_hit, pieces_miss   `pieces` byte by byte
--   piece, end_le   what stands from a place on up to the next c, and where that is
--   Free c t          the byte c is not in t; free_append, pieces_free, pieces_next
--   pieces_some       a text has a first piece; head_of: what stands at the front of the pieces from piece n on
use mathlib.Core.Path.{◌≡◌, refl, sym, ap, ◌∙◌}
use mathlib.Core.Logic.{◌≢◌}
use mathlib.Core.Bool.{Bool, true, false}
use mathlib.Core.List.{List, [], ◌∷◌, ◌++◌}
use Prim.Native.Nat.{ℕ, zero, suc, ◌+◌, ◌-◌, ◌≤◌, ◌<◌, max}
use native.Mathlib.Nat.{add-zero}
use native.Mathlib.Numerals.{add-one}
use native.Mathlib.Decide.{dec_le}
use native.Mathlib.Omega.{arith}
use lib.Dec.{eqb}
use lib.ListN.{length, get_or, take, drop, length-drop, drop_of_length-le}
use lib.Seq.{drop-cons, drop-drop, get_or-drop}
use borrow.Author.Tests.{eq-eqb, ne_eqb, eqb-true, eqb-false}
use Rattle.text_cut.specs.Pieces.{until, ahead, pieces}

-- ---- until
until_if : ℕ → ℕ → List ℕ → Bool → List ℕ
until_if c x s b = elim b [ true ↦ [] | false ↦ x ∷ until c s ]

until_hit : (c x : ℕ) (s : List ℕ) → x ≡ c → until c (x ∷ s) ≡ []
unfolding until until_if
until_hit c x s h = ap (until_if c x s) (eq-eqb x c h)

until_miss : (c x : ℕ) (s : List ℕ) → (x ≡ c → ⊥) → until c (x ∷ s) ≡ x ∷ until c s
unfolding until until_if
until_miss c x s h = ap (until_if c x s) (ne_eqb x c h)

until_none : (c : ℕ) → until c [] ≡ []
unfolding until
until_none c = refl

pub until_here : (c : ℕ) (s : List ℕ) (i : ℕ) → i < length s → get_or s i 0 ≡ c → until c (drop i s) ≡ []
until_here c s i h e = ap (until c) (drop-cons s i 0 h) ∙ until_hit c (get_or s i 0) (drop (suc i) s) e

pub until_skip : (c : ℕ) (s : List ℕ) (i : ℕ) → i < length s → (get_or s i 0 ≡ c → ⊥) → until c (drop i s) ≡ get_or s i 0 ∷ until c (drop (i + 1) s)
until_skip c s i h e =
    ap (until c) (drop-cons s i 0 h) ∙ until_miss c (get_or s i 0) (drop (suc i) s) e
    ∙ ap (λ (k : ℕ). get_or s i 0 ∷ until c (drop k s)) (sym (add-one i))

pub until_past : (c : ℕ) (s : List ℕ) (i : ℕ) → length s ≤ i → until c (drop i s) ≡ []
until_past c s i h = ap (until c) (drop_of_length-le s h) ∙ until_none c

-- a search for c, at i, for the place m
pub search_here : (c : ℕ) (s : List ℕ) (i m : ℕ) → until c (drop i s) ≡ [] → i + length (until c (drop i s)) ≡ m → i ≡ m
search_here c s i m u e = let a : length (until c (drop i s)) ≡ 0 = ap length u in omega arith

pub search_on : (c : ℕ) (s : List ℕ) (i m : ℕ) → i < length s → (get_or s i 0 ≡ c → ⊥) → i + length (until c (drop i s)) ≡ m
    → i + 1 + length (until c (drop (i + 1) s)) ≡ m
search_on c s i m h n e =
    let a : length (until c (drop i s)) ≡ suc (length (until c (drop (i + 1) s))) = ap length (until_skip c s i h n) in
    omega arith

-- a search that began at `from` and has met no c
pub search_past : (c : ℕ) (s : List ℕ) (from i : ℕ) → length s ≤ i → (from ≤ length s → i ≤ length s)
    → i + length (until c (drop i s)) ≡ from + length (until c (drop from s)) → max from (length s) ≡ from + length (until c (drop from s))
search_past c s from i h k e = elim (dec_le (length s) from) [
  | yes p ↦ (let a : length (until c (drop from s)) ≡ 0 = ap length (until_past c s from p) in omega arith)
  | no p ↦ (let a : length (until c (drop i s)) ≡ 0 = ap length (until_past c s i h) in let b : i ≤ length s = k (omega arith) in omega arith)
]

pub until_le : (c : ℕ) (s : List ℕ) → length (until c s) ≤ length s
unfolding until until_if
until_le c [] = omega arith
until_le c (x ∷ s) = go (eqb x c) (until_le c s)
  where
    go : (b : Bool) → length (until c s) ≤ length s → length (until_if c x s b) ≤ suc (length s)
    go true h = omega arith
    go false h = omega arith

pub until_take : (c : ℕ) (s : List ℕ) → until c s ≡ take (length (until c s)) s
unfolding until until_if
until_take c [] = refl
until_take c (x ∷ s) = go (eqb x c) (until_take c s)
  where
    go : (b : Bool) → until c s ≡ take (length (until c s)) s → until_if c x s b ≡ take (length (until_if c x s b)) (x ∷ s)
    go true h = refl
    go false h = ap (λ (z : List ℕ). x ∷ z) h

-- c is not among the bytes before the first c, and stands behind them where they are not all
pub until_free : (c : ℕ) (s : List ℕ) (k : ℕ) → k < length (until c s) → get_or (until c s) k 0 ≡ c → ⊥
unfolding until until_if
until_free c [] k h e = absurd (omega arith)
until_free c (x ∷ s) k h e = go (eqb x c) refl (until_free c s) k h e
  where
    go : (b : Bool) → eqb x c ≡ b → ((j : ℕ) → j < length (until c s) → get_or (until c s) j 0 ≡ c → ⊥)
        → (j : ℕ) → j < length (until_if c x s b) → get_or (until_if c x s b) j 0 ≡ c → ⊥
    go true q ih j l z = absurd (omega arith)
    go false q ih zero l z = eqb-false x c q z
    go false q ih (suc j) l z = ih j (omega arith) z

pub until_stop : (c : ℕ) (s : List ℕ) → length (until c s) < length s → drop (length (until c s)) s ≡ c ∷ drop (length (until c s) + 1) s
unfolding until until_if
until_stop c [] h = absurd (omega arith)
until_stop c (x ∷ s) h = go (eqb x c) refl (until_stop c s) h
  where
    go : (b : Bool) → eqb x c ≡ b → (length (until c s) < length s → drop (length (until c s)) s ≡ c ∷ drop (length (until c s) + 1) s)
        → length (until_if c x s b) < suc (length s) → drop (length (until_if c x s b)) (x ∷ s) ≡ c ∷ drop (length (until_if c x s b) + 1) (x ∷ s)
    go true q ih l = ap (λ (y : ℕ). y ∷ s) (eqb-true x c q)
    go false q ih l =
        ih (omega arith)
        ∙ ap (λ (j : ℕ). c ∷ drop j (x ∷ s)) (let e : suc (length (until c s) + 1) ≡ suc (length (until c s)) + 1 = omega arith in e)

-- ---- the pieces
pieces_if : ℕ → ℕ → List ℕ → Bool → List (List ℕ)
pieces_if c x s b = elim b [ true ↦ [] ∷ pieces c s | false ↦ ahead x (pieces c s) ]

pub pieces_hit : (c x : ℕ) (s : List ℕ) → x ≡ c → pieces c (x ∷ s) ≡ [] ∷ pieces c s
unfolding pieces pieces_if
pieces_hit c x s h = ap (pieces_if c x s) (eq-eqb x c h)

pub pieces_miss : (c x : ℕ) (s : List ℕ) → x ≢ c → pieces c (x ∷ s) ≡ ahead x (pieces c s)
unfolding pieces pieces_if
pieces_miss c x s h = ap (pieces_if c x s) (ne_eqb x c h)

pub pieces_none : (c : ℕ) → pieces c [] ≡ [] ∷ []
unfolding pieces
pieces_none c = refl

pub end_le : (c : ℕ) (s : List ℕ) (at e : ℕ) → at ≤ length s → e ≡ at + length (until c (drop at s)) → e ≤ length s
end_le c s at e h q =
    let a : length (until c (drop at s)) ≤ length (drop at s) = until_le c (drop at s) in
    let b : length (drop at s) ≡ length s - at = length-drop at s in
    omega arith

pub piece : (c : ℕ) (s : List ℕ) (at e : ℕ) → e ≡ at + length (until c (drop at s)) → until c (drop at s) ≡ take (e - at) (drop at s)
piece c s at e q =
    let k : length (until c (drop at s)) ≡ e - at = omega arith in
    until_take c (drop at s) ∙ ap (λ (j : ℕ). take j (drop at s)) k

pub head_of : (n : ℕ) (ps : List (List ℕ)) {p : List ℕ} {qs : List (List ℕ)} → drop n ps ≡ p ∷ qs → (n < length ps) × (get_or ps n [] ≡ p) × (drop (n + 1) ps ≡ qs)
head_of n ps {p} {qs} e = (
  let l : length (drop n ps) ≡ length ps - n = length-drop n ps in
      let k : length (drop n ps) ≡ suc (length qs) = ap length e in omega arith,
  ap (λ (j : ℕ). get_or ps j []) (sym (add-zero n)) ∙ sym (get_or-drop n ps 0 []) ∙ ap (λ (z : List (List ℕ)). get_or z 0 []) e,
  sym (drop-drop 1 n ps) ∙ ap (drop 1) e,
)

-- ---- a byte that is not in a text
abbrev pub Free : ℕ → List ℕ → Type 0
Free c t = (k : ℕ) → k < length t → get_or t k 0 ≢ c

pub free_append : (c : ℕ) (t u : List ℕ) → Free c t → Free c u → Free c (t ++ u)
free_append c [] u f g k h = g k h
free_append c (x ∷ t) u f g zero h = f 0 (omega arith)
free_append c (x ∷ t) u f g (suc k) h = free_append c t u (λ j l. f (suc j) (omega arith)) g k (omega arith)

-- a text of which the first piece is known
pub pieces_free : (c : ℕ) (t : List ℕ) → Free c t → pieces c t ≡ t ∷ []
unfolding ahead
pieces_free c [] f = pieces_none c
pieces_free c (x ∷ t) f =
    pieces_miss c x t (f 0 (omega arith)) ∙ ap (ahead x) (pieces_free c t (λ k h. f (suc k) (omega arith)))

pub pieces_next : (c : ℕ) (t u : List ℕ) → Free c t → pieces c (t ++ c ∷ u) ≡ t ∷ pieces c u
unfolding ahead
pieces_next c [] u f = pieces_hit c c u refl
pieces_next c (x ∷ t) u f =
    pieces_miss c x (t ++ c ∷ u) (f 0 (omega arith)) ∙ ap (ahead x) (pieces_next c t u (λ k h. f (suc k) (omega arith)))

ahead_cons : (x : ℕ) (p : List ℕ) (ps : List (List ℕ)) → ahead x (p ∷ ps) ≡ (x ∷ p) ∷ ps
unfolding ahead
ahead_cons x p ps = refl

-- a text has a first piece
pub pieces_some : (c : ℕ) (s : List ℕ) → (p : List ℕ) × (ps : List (List ℕ)) × (pieces c s ≡ p ∷ ps)
pieces_some c [] = ([], [], pieces_none c)
pieces_some c (x ∷ s) = go (eqb x c) refl (pieces_some c s)
  where
    go : (b : Bool) → eqb x c ≡ b → (p : List ℕ) × (ps : List (List ℕ)) × (pieces c s ≡ p ∷ ps) → (p : List ℕ) × (ps : List (List ℕ)) × (pieces c (x ∷ s) ≡ p ∷ ps)
    go true e r = ([], pieces c s, pieces_hit c x s (eqb-true x c e))
    go false e r = (x ∷ r.0, r.1, pieces_miss c x s (eqb-false x c e) ∙ ap (ahead x) r.2 ∙ ahead_cons x r.0 r.1)
