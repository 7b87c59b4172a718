-- `field_fill::heads` meets its contract: at each place stands what the closure gives there.
use mathlib.Core.Path.{◌≡◌, sym, ◌∙◌}
use native.Mathlib.Omega.{arith}
use Prim.Native.Nat.{◌<◌}
use lib.ListN.{get_or}
use lib.Seq.{ext_get_or}
use Rattle.std.proofs.Common.{rules, tests}
use Rattle.math_rows.specs.Row.{tab}
use Rattle.math_rows.proofs.Tab.{length_tab, at_tab}
use Rattle.field_roots.specs.SeriesOf.{top}
use Rattle.field_fill.proofs.heads.Goals as goal

pub returns : goal.returns
returns c = let r = c.from_fn.result in
    let f = top c.args.s.now in
    let m = c.from_fn.ensures.items in
    ext_get_or 0 r (tab 13 f) (m.long ∙ sym (length_tab 13 f)) (λ k u. let in_row : k < 13 = omega (arith, m.long) in
    let w = m.at k 0 in_row in
    let e : get_or r k 0 ≡ f k = search (rules, tests) in e ∙ sym (at_tab 13 f k in_row))
