-- From the lists that `fill` makes to the series of the field.
--   leads_of     the leading coefficients of an accepted field
--   filler_of    what `fill` asks
--   grown_of     what it makes is `SeriesOf`
use mathlib.Core.Path.{◌≡◌, sym, ap, ap₂, ◌∙◌, fun_ext, subst}
use mathlib.Core.Logic.{◌≢◌}
use mathlib.Core.List.{List}
use Prim.Native.Nat.{ℕ, ◌*◌, ◌%◌, ◌≤◌, ◌<◌}
use native.Mathlib.Omega.{arith}
use lib.ListN.{length, get_or}
use Rattle.base_lists.specs.Sums.{entry, prod}
use Rattle.math_fp.proofs.Field.{ppos}
use Rattle.math_rows.specs.Row.{tab}
use Rattle.field_open.specs.Refusal.{Degree, Accepted}
use Rattle.field_roots.specs.SeriesOf.{top}
use Rattle.field_roots.proofs.Only.{top_lead}
use Rattle.field_next.specs.Next.{Filled}
use Rattle.field_pairs.specs.Pairs.{Filler, Made}
use Rattle.field_fill.specs.Fill.{Listed, Leads, LeadRoot, ThriceInverse, Grown}
use Rattle.field_fill.proofs.Top.{top_below, heads_are}

module _ {p : ℕ} {G H : List ℕ} (A : Accepted p G H) where
  small : p < 65536
  small = let h : p ≤ 65535 = A.high in omega arith

  pub listed_G : Listed p G
  listed_G = record { small = small; list = (A.deg_g, A.list_g) }

  pub listed_H : Listed p H
  listed_H = record { small = small; list = (A.deg_h, A.list_h) }

  some : {l : List ℕ} {d : ℕ} → Degree p l d → 0 < top l 0
  some {l} {d} s = let e : top l 0 ≡ get_or l d 0 = top_lead s in let n : get_or l d 0 ≢ 0 = s.last in omega arith

  pub leads_of : Leads p (top G 0) (top H 0)
  leads_of = record {
    prime = A.prime;
    low = A.low;
    small = small;
    kind = A.kind;
    g_some = some A.list_g;
    g_below = top_below A.list_g 0;
    h_some = some A.list_h;
    h_below = top_below A.list_h 0;
  }

  pub root_leads : (c : ℕ) → LeadRoot p (top G 0) (top H 0) c → Leads p c c
  root_leads c r = record {
    prime = A.prime;
    low = A.low;
    small = small;
    kind = A.kind;
    g_some = r.some;
    g_below = r.below;
    h_some = r.some;
    h_below = r.below;
  }

  module _ {x y : List ℕ} (ex : x ≡ tab 13 (top G)) (ey : y ≡ tab 13 (top H)) where
    x_is : entry x ≡ top G
    x_is = ap (λ l. λ i. entry l i) ex ∙ fun_ext (heads_are A.list_g)

    y_is : entry y ≡ top H
    y_is = ap (λ l. λ i. entry l i) ey ∙ fun_ext (heads_are A.list_h)

    module _ {c : ℕ} (root : LeadRoot p (top G 0) (top H 0) c) where
      pub filler_of : {r w : List ℕ} (u : ℕ) → ThriceInverse p c u → length w ≡ length r → length r ≤ 4096 → Filler p x y c u r w
      filler_of u i e l = record {
        pos = ppos p A.prime;
        small = small;
        c_below = root.below;
        u_below = i.below;
        unit = i.law;
        cube = root.law ∙ ap₂ (λ f k. (f 0 * (k 0 * k 0)) % p) (sym x_is) (sym y_is);
        even = e;
        near = l;
      }

      pub grown_of : {r r' w' : List ℕ} → Made p x y c r r' w' → Grown p G H r r' w'
      grown_of {r} {r'} {w'} m =
          let e : length r' ≡ length r = m.size in
          let f : Filled p x y r' w' (length r') = subst (Filled p x y r' w') (sym e) m.done in
          record {
            size = e;
            series = record {
              even = f.even;
              r_below = f.r_below;
              w_below = f.w_below;
              first = λ l. ap (λ a. (a * a * a) % p) (m.first (omega arith)) ∙ root.law;
              square = λ i l. f.square i l ∙ ap (λ k. prod k (entry w') i % p) y_is;
              product = λ i l. f.product i l ∙ ap₂ (λ a b. prod a b i % p) x_is y_is;
            };
          }
