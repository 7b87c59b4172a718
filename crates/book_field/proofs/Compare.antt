-- Comparing a body whose field is accepted with an accepted field p, G, H.
--   sold             the field that the bytes say
--   short_g, short_h its lists are at most 13 long
--   both_read        what is read out of a body over p can be compared
--   one_read         and what that decides
--   own_sold, own_field, field_own   a body's own p, G, H stand for it
use mathlib.Core.Path.{◌≡◌, sym, ◌∙◌, subst}
use mathlib.Core.Bool.{Bool}
use mathlib.Core.List.{List}
use Prim.Native.Nat.{ℕ, ◌≤◌}
use native.Mathlib.Omega.{arith}
use lib.ListN.{length}
use Rattle.field_open.specs.Refusal.{Accepted}
use Rattle.field_open.proofs.Accept.{accepted}
use Rattle.pair_laws.specs.OneField as pairs
use Rattle.pair_agree.specs.Answer.{Both}
use Rattle.book_bytes.specs.Bytes.{u2}
use Rattle.base_answers.specs.Decides.{Decides}
use Rattle.book_bytes.proofs.Lists.{length_list}
use Rattle.book_body.specs.Body.{Body, FieldSays, OneField, list_at, body_of}
use Rattle.book_field.specs.Code.{pair_of, SoldOver}

pub sold : (s : List ℕ) → FieldSays (body_of s) 0 → Accepted (u2 s 0) (list_at s 0) (list_at s 1)
unfolding body_of
sold s = accepted (u2 s 0) (list_at s 0) (list_at s 1)

module _ (s : List ℕ) (f : FieldSays (body_of s) 0) where
  pub short_g : u2 s 2 ≤ 13
  short_g = let a : length (list_at s 0) ≤ 13 = (sold s f).list_g.short in let e : length (list_at s 0) ≡ u2 s 2 = length_list 16 2 s 0 in omega arith

  pub short_h : u2 s 4 ≤ 13
  short_h = let a : length (list_at s 1) ≤ 13 = (sold s f).list_h.short in let e : length (list_at s 1) ≡ u2 s 4 = length_list 16 2 s 1 in omega arith

-- the body's lists as the code has read them
module _ {p : ℕ} {G H : List ℕ} (b : List ℕ) (s : SoldOver p G H b) {g h : List ℕ} (eg : g ≡ list_at b 0) (eh : h ≡ list_at b 1) where
  pub both_read : Both p G H g h
  both_read = rw (eg, eh) record {
    first = accepted p G H s.sold.first;
    second = subst (λ q. Accepted q (list_at b 0) (list_at b 1)) (sym s.over) (sold b s.sold.second);
  }

  pub one_read : (r : Bool) → Decides r (pairs.OneField p G H g h) → Decides r (OneField (pair_of p G H) (body_of b))
  unfolding body_of
  one_read r d =
      let e : Decides r (pairs.OneField p G H (list_at b 0) (list_at b 1)) = rw (sym eg, sym eh) d in
      record { yes! = λ t. record { p = s.over; pair = e.yes! t }; no! = λ t o. e.no! t o.pair }

-- ---- a body's own p, G, H, read once, stand for it
module _ (a : List ℕ) {p : ℕ} {g h : List ℕ} (e : p ≡ u2 a 0) (eg : g ≡ list_at a 0) (eh : h ≡ list_at a 1) where
  pub own_sold : FieldSays (body_of a) 0 → FieldSays (pair_of p g h) 0
  unfolding body_of
  own_sold f = rw (e, eg, eh) f

  pub own_field : (b : Body) → OneField (pair_of p g h) b → OneField (body_of a) b
  unfolding body_of
  own_field b o = record { p = sym e ∙ o.p; pair = rw (sym e, sym eg, sym eh) o.pair }

  pub field_own : (b : Body) → OneField (body_of a) b → OneField (pair_of p g h) b
  unfolding body_of
  field_own b o = record { p = e ∙ o.p; pair = rw (e, eg, eh) o.pair }
