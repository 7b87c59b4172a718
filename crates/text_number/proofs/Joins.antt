-- Pieces joined, and a text cut into pieces: each undoes the other.
--   join_pieces    the pieces of a text, joined, are the text
--   pieces_join    texts without the byte c, at least one, joined by it, have themselves as pieces
--   join_long      how long a joined text is at least; join_free: a byte that is in no piece is not in the joined text
use mathlib.Core.Path.{◌≡◌, refl, sym, ap, ◌∙◌}
use mathlib.Core.Logic.{◌≢◌}
use mathlib.Core.Bool.{Bool, true, false}
use mathlib.Core.List.{List, [], ◌∷◌, ◌++◌}
use Prim.Native.Nat.{ℕ, zero, suc, ◌+◌, ◌*◌, ◌≤◌, ◌<◌}
use native.Mathlib.Omega.{arith}
use lib.Dec.{eqb}
use lib.ListN.{length, get_or, length-append}
use borrow.Author.Tests.{eqb-true, eqb-false}
use Rattle.text_put.specs.Print.{join}
use Rattle.text_cut.specs.Pieces.{ahead, pieces}
use Rattle.text_cut.proofs.Cuts.{Free, free_append, pieces_none, pieces_hit, pieces_miss, pieces_free, pieces_next, pieces_some}

pub pieces_join : (c : ℕ) (t : List ℕ) (ts : List (List ℕ)) → ((k : ℕ) → k < suc (length ts) → Free c (get_or (t ∷ ts) k [])) → pieces c (join c (t ∷ ts)) ≡ t ∷ ts
unfolding join
pieces_join c t [] f = pieces_free c t (f 0 (omega arith))
pieces_join c t (u ∷ ts) f =
    pieces_next c t (join c (u ∷ ts)) (f 0 (omega arith)) ∙ ap (λ (z : List (List ℕ)). t ∷ z) (pieces_join c u ts (λ k h. f (suc k) (omega arith)))

-- ---- back
join_ahead : (c x : ℕ) (p : List ℕ) (ps : List (List ℕ)) → join c (ahead x (p ∷ ps)) ≡ x ∷ join c (p ∷ ps)
unfolding join ahead
join_ahead c x p [] = refl
join_ahead c x p (q ∷ ps) = refl

pub join_pieces : (c : ℕ) (s : List ℕ) → join c (pieces c s) ≡ s
unfolding join
join_pieces c [] = ap (join c) (pieces_none c)
join_pieces c (x ∷ s) = go (eqb x c) refl (pieces_some c s) (join_pieces c s)
  where
    go : (b : Bool) → eqb x c ≡ b → (p : List ℕ) × (ps : List (List ℕ)) × (pieces c s ≡ p ∷ ps) → join c (pieces c s) ≡ s → join c (pieces c (x ∷ s)) ≡ x ∷ s
    go true e r h =
        ap (join c) (pieces_hit c x s (eqb-true x c e) ∙ ap (λ (z : List (List ℕ)). [] ∷ z) r.2)
        ∙ ap (λ (z : List ℕ). c ∷ z) (ap (join c) (sym r.2) ∙ h)
        ∙ ap (λ (y : ℕ). y ∷ s) (sym (eqb-true x c e))
    go false e r h =
        ap (join c) (pieces_miss c x s (eqb-false x c e) ∙ ap (ahead x) r.2) ∙ join_ahead c x r.0 r.1
        ∙ ap (λ (z : List ℕ). x ∷ z) (ap (join c) (sym r.2) ∙ h)

-- ---- lengths
pub join_long : (c : ℕ) (t : List ℕ) (ts : List (List ℕ)) → ((k : ℕ) → k < suc (length ts) → 1 ≤ length (get_or (t ∷ ts) k [])) → 2 * suc (length ts) ≤ length (join c (t ∷ ts)) + 1
unfolding join
join_long c t [] f = let h : 1 ≤ length t = f 0 (omega arith) in omega arith
join_long c t (u ∷ ts) f =
    let h : 1 ≤ length t = f 0 (omega arith) in
    let i : 2 * suc (length ts) ≤ length (join c (u ∷ ts)) + 1 = join_long c u ts (λ k l. f (suc k) (omega arith)) in
    let e : length (t ++ c ∷ join c (u ∷ ts)) ≡ length t + suc (length (join c (u ∷ ts))) = length-append t (c ∷ join c (u ∷ ts)) in
    omega arith

-- ---- a byte that is in none of the pieces
free_cons : (c d : ℕ) (u : List ℕ) → d ≢ c → Free c u → Free c (d ∷ u)
free_cons c d u n f zero h = n
free_cons c d u n f (suc k) h = f k (omega arith)

pub join_free : (c d : ℕ) (t : List ℕ) (ts : List (List ℕ)) → d ≢ c → ((k : ℕ) → k < suc (length ts) → Free c (get_or (t ∷ ts) k [])) → Free c (join d (t ∷ ts))
unfolding join
join_free c d t [] n f = f 0 (omega arith)
join_free c d t (u ∷ ts) n f =
    free_append c t (d ∷ join d (u ∷ ts)) (f 0 (omega arith)) (free_cons c d (join d (u ∷ ts)) n (join_free c d u ts n (λ k h. f (suc k) (omega arith))))
