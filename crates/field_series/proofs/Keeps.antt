-- The struct of an opened field.
--   holding       an accepted field, opened, with the first coefficients of its series
--   keeps_at      what a struct holds, for the p that it holds
--   holding_unique   a field has one such struct
use mathlib.Core.Path.{◌≡◌, refl, sym, ◌∙◌, subst}
use mathlib.Core.List.{List}
use Prim.Native.Nat.{ℕ}
use lib.ListN.{length}
use Rattle.field_open.specs.Refusal.{Accepted}
use Rattle.field_open.specs.declared.Field.{Field}
use Rattle.field_open.specs.Opening.{Held}
use Rattle.field_open.proofs.Opening.{holds_unique}
use Rattle.field_roots.specs.SeriesOf.{SeriesOf}
use Rattle.field_roots.proofs.Only.{series_of_unique}
use Rattle.field_series.specs.Keeps.{Keeps, Holding}
use Rattle.field_series.specs.declared.OpenedField.{OpenedField}

module _ {p : ℕ} {G H : List ℕ} where
  pub holding : (f : Field) (r w : List ℕ) → Accepted p G H → Held p G H f → length r ≡ 32 → SeriesOf p G H r w → Holding p G H (record { field = f; r = r; w = w })
  holding f r w A k s t =
      let e : f.p ≡ p = (k A.deg_g A.deg_h A.list_g A.list_h).prime in (
        e,
        subst (λ q. Keeps q G H f.g f.h f.gh f.dr f.dw r w) (sym e) (record {
          accepted = A;
          held = λ d e x y. let z = k d e x y in record { prime = refl; row_g = z.row_g; row_h = z.row_h; row_gh = z.row_gh; product = z.product; deg_r = z.deg_r; deg_w = z.deg_w };
          size = s;
          series = t;
        }),
      )

  pub keeps_at : (c : OpenedField) → Holding p G H c → Keeps p G H c.field.g c.field.h c.field.gh c.field.dr c.field.dw c.r c.w
  keeps_at c (e, k) = subst (λ q. Keeps q G H c.field.g c.field.h c.field.gh c.field.dr c.field.dw c.r c.w) e k

  pub holding_unique : (c c' : OpenedField) → Holding p G H c → Holding p G H c' → c ≡ c'
  holding_unique c c' h h' =
      let k = keeps_at c h in
      let k' = keeps_at c' h' in
      let A = k.accepted in
      let f = holds_unique _ _ A.prime (k.held A.deg_g A.deg_h A.list_g A.list_h) (k'.held A.deg_g A.deg_h A.list_g A.list_h) in
      let (r, w) = series_of_unique c.r c.w c'.r c'.w A k.series k'.series (k.size ∙ sym k'.size) in
      let e : c.field.p ≡ c'.field.p = h.0 ∙ sym h'.0 in
      (λ i. record { field = record { p = e i; g = (f i).g; h = (f i).h; gh = (f i).gh; dr = (f i).dr; dw = (f i).dw }; r = r i; w = w i })
