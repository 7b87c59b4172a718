-- `unit_check::coordinate` meets its contract.
use mathlib.Core.Path.{refl}
use lib.ListN.{replicate}
use Rattle.unit_check.proofs.Coordinates.{pair_asks, times_asks, pair_end, times_end, sum_room, sum_asks, sum_end, sum_some, coordinate_gives}
use Rattle.unit_check.proofs.coordinate.Goals as goal

pub mix-requires : goal.mix-requires
mix-requires c = pair_asks c.requires _ refl

pub times-requires : goal.times-requires
times-requires c = times_asks c.requires _ refl

pub slice_bounds-mix-end : goal.slice_bounds-mix-end
slice_bounds-mix-end c = pair_end c.requires _ _ refl c.mix.ensures

pub slice_bounds-mix-end-2 : goal.slice_bounds-mix-end-2
slice_bounds-mix-end-2 c = times_end c.requires _ _ refl c.times.ensures

pub slice_bounds-d-end : goal.slice_bounds-d-end
slice_bounds-d-end c = sum_room c.requires (replicate 8224 0) refl

pub mix-requires-2 : goal.mix-requires-2
mix-requires-2 c = sum_asks c.requires _ refl

pub slice_bounds-constant-end : goal.slice_bounds-constant-end
slice_bounds-constant-end c = sum_end c.requires _ _ refl c.mix-2.ensures

pub constant-requires : goal.constant-requires
constant-requires c = sum_some c.requires _ _ refl c.mix-2.ensures

pub returns : goal.returns
returns c = coordinate_gives c.requires _ _ _ _ _ _ _ refl refl refl c.mix.ensures c.times.ensures c.mix-2.ensures c.constant.ensures
