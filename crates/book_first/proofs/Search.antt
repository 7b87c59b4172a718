-- Looking for the first entry of one field with a body.
--   sold_here               the entry in hand can be compared
--   search_own, earliest_own   the search for a body is that for its own p, G, H
use mathlib.Core.Path.{◌≡◌, sym, subst}
use mathlib.Core.List.{List}
use Prim.Native.Nat.{ℕ, ◌<◌}
use Rattle.book_bytes.specs.Bytes.{u2}
use Rattle.book_body.specs.Body.{FieldSays, list_at, body_of}
use Rattle.book_field.specs.Code.{pair_of, Sold}
use Rattle.book_field.proofs.Compare.{own_sold, own_field, field_own}
use Rattle.book_contents.specs.Contents.{part}
use Rattle.book_first.specs.Earliest.{entry, EarlierAsks, FirstOfAsks, Earliest}

-- bodies that are compared have accepted fields
pub sold_here : {s : List ℕ} {p : ℕ} {G H o : List ℕ} {i j : ℕ} → FirstOfAsks s p G H i → j < i → o ≡ part s j → Sold p G H o
sold_here {j = j} w h e = record { first = w.own; second = subst (λ (z : List ℕ). FieldSays (body_of z) 0) (sym e) (w.each j h) }

-- ---- a body's own p, G, H, read once, in place of the body
module _ (s b : List ℕ) {p : ℕ} {g h : List ℕ} (e : p ≡ u2 b 0) (eg : g ≡ list_at b 0) (eh : h ≡ list_at b 1) where
  pub search_own : {i : ℕ} → EarlierAsks s b i → FirstOfAsks s p g h i
  search_own w = record { marked = w.marked; listed = w.listed; within = w.within; own = own_sold b e eg eh w.own; each = w.each }

  pub earliest_own : {i r : ℕ} → Earliest s (pair_of p g h) i r → Earliest s (body_of b) i r
  earliest_own {r = r} w = record {
    within = w.within;
    none = λ k u o. w.none k u (field_own b e eg eh (entry s k) o);
    found = λ u. own_field b e eg eh (entry s r) (w.found u);
  }
