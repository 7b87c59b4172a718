-- `field_series::with_series` meets its contract.
use mathlib.Core.Path.{◌≡◌, ◌∙◌, sym, ap, subst}
use mathlib.Core.List.{List}
use Prim.Native.Nat.{ℕ}
use lib.ListN.{length}
use Rattle.field_roots.specs.SeriesOf.{SeriesOf}
use Rattle.field_series.proofs.Keeps.{holding}
use Rattle.field_series.proofs.with_series.Goals as goal

-- the same lists
same : {p : ℕ} {G H r w x y : List ℕ} → x ≡ r → y ≡ w → SeriesOf p G H r w → SeriesOf p G H x y
same {p} {G} {H} {r} {w} {x} {y} e f h = subst (λ a. SeriesOf p G H a y) (sym e) (subst (λ b. SeriesOf p G H r b) (sym f) h)

pub returns : goal.returns
returns c = let g = c.grow.ensures in
    holding _ _ _ c.requires.accepted c.requires.held (ap length c.widened.ensures ∙ g.size) (same c.widened.ensures c.widened-2.ensures g.series)
