-- `field_fill::grow` meets its contract: proofs/Growing.antt, at what the calls hand out.
use Prim.Native.Nat.{ℕ}
use mathlib.Core.Path.{◌≡◌, sym, ap, ◌∙◌, subst}
use mathlib.Core.List.{List}
use native.Mathlib.Omega.{arith}
use lib.ListN.{get_or}
use Rattle.math_rows.specs.Row.{tab}
use Rattle.math_rows.proofs.Tab.{at_tab}
use Rattle.field_roots.specs.SeriesOf.{top}
use Rattle.field_fill.specs.Fill.{Leads, LeadRoot}
use Rattle.field_fill.proofs.Growing.{leads_of, filler_of, grown_of}
use Rattle.field_fill.proofs.grow.Goals as goal

-- the leading coefficients are read as the first of their lists
lead : (f : ℕ → ℕ) {l : List ℕ} {x : ℕ} → l ≡ tab 13 f → x ≡ get_or l 0 0 → x ≡ f 0
lead f e w = w ∙ ap (λ l. get_or l 0 0) e ∙ at_tab 13 f 0 (omega arith)

-- the root of the leading coefficients that were read
root_of : {p a b c x y : ℕ} → a ≡ x → b ≡ y → LeadRoot p a b c → LeadRoot p x y c
root_of {p} {a} {b} {c} {x} {y} e f r = subst (λ x. LeadRoot p x y c) e (subst (λ x. LeadRoot p a x c) f r)

pub lead_root-c-requires : goal.lead_root-c-requires
lead_root-c-requires c = subst (λ a. Leads c.args.p a c.wide-2.result) (sym (lead (top c.args.g.now) c.heads-x.ensures c.wide.ensures))
    (subst (λ b. Leads c.args.p (top c.args.g.now 0) b) (sym (lead (top c.args.h.now) c.heads-y.ensures c.wide-2.ensures)) (leads_of c.requires.accepted))

pub fill-requires : goal.fill-requires
fill-requires c = filler_of c.requires.accepted c.heads-x.ensures c.heads-y.ensures
    (root_of (lead (top c.args.g.now) c.heads-x.ensures c.wide.ensures) (lead (top c.args.h.now) c.heads-y.ensures c.wide-2.ensures) c.lead_root-c.ensures) c.thrice_inverse-u.result c.thrice_inverse-u.ensures c.requires.even c.requires.near

pub returns : goal.returns
returns c = grown_of c.requires.accepted c.heads-x.ensures c.heads-y.ensures
    (root_of (lead (top c.args.g.now) c.heads-x.ensures c.wide.ensures) (lead (top c.args.h.now) c.heads-y.ensures c.wide-2.ensures) c.lead_root-c.ensures) c.fill.ensures
