-- To be of one field is an equivalence on bodies whose field is accepted: p is equal, and the pairs are of one field.
--   one_refl, one_sym, one_trans
use mathlib.Core.Path.{refl, sym, ◌∙◌, subst}
use Prim.Native.Nat.{ℕ}
use Rattle.field_open.proofs.Accept.{accepted}
use Rattle.pair_laws.specs.OneField as pairs
use Rattle.pair_agree.specs.Answer.{Coefficients}
use Rattle.pair_agree.proofs.Relation as pairs'
use Rattle.book_body.specs.Body.{Body, FieldSays, OneField}

coefficients : (b : Body) → FieldSays b 0 → Coefficients b.p b.G b.H
coefficients b f = let s = accepted b.p b.G b.H f in record { deg_g = s.deg_g; deg_h = s.deg_h; list_g = s.list_g; list_h = s.list_h }

pub one_refl : (b : Body) → FieldSays b 0 → OneField b b
one_refl b f = record { p = refl; pair = pairs'.one_refl b.p (accepted b.p b.G b.H f).prime (coefficients b f) }

pub one_sym : {a b : Body} → OneField a b → OneField b a
one_sym {a} {b} o = record {
  p = sym o.p;
  pair = subst (λ (q : ℕ). pairs.OneField q b.G b.H a.G a.H) o.p (pairs'.one_sym o.pair);
}

pub one_trans : {a b c : Body} → FieldSays b 0 → OneField a b → OneField b c → OneField a c
one_trans {a} {b} {c} f o q = record {
  p = o.p ∙ q.p;
  pair = subst (λ (r : ℕ). pairs.OneField r a.G a.H c.G c.H) (sym o.p)
      (pairs'.one_trans b.p (accepted b.p b.G b.H f).prime (coefficients b f) (subst (λ (r : ℕ). pairs.OneField r a.G a.H b.G b.H) o.p o.pair) q.pair);
}
