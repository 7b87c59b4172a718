-- `unit_scale::factor` meets its contract.
use mathlib.Core.Path.{◌≡◌, ap}
use mathlib.Core.Logic.{◌≢◌}
use native.Mathlib.Omega.{arith}
use borrow.Author.Rules.{rules}
use Rattle.unit_scale.specs.Scale.{numbered}
use Rattle.unit_scale.proofs.Scales.{monic_in, norm_in, factors_monic, factors_norm, p_pos}
use Rattle.unit_scale.proofs.factor.Goals as goal

pub for_monic-requires : goal.for_monic-requires
for_monic-requires c = monic_in c.requires

pub returns-in-Monic : goal.returns-in-Monic
returns-in-Monic c = let o = p_pos c.requires in
    let e : numbered c.args.convention ≡ 1 = ap numbered c.in-Monic.is in
    search (rules, factors_monic)

pub for_norm-requires : goal.for_norm-requires
for_norm-requires c = norm_in c.requires

pub returns-in-Norm : goal.returns-in-Norm
returns-in-Norm c = let o = p_pos c.requires in
    let e : numbered c.args.convention ≡ 2 = ap numbered c.in-Norm.is in
    let n : numbered c.args.convention ≢ 1 = omega arith in
    search (rules, factors_norm)
