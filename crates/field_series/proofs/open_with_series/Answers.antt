-- `field_series::open_with_series` meets its contract: the opened field is known.
use mathlib.Core.Path.{refl}
use Rattle.field_series.proofs.Answer.{opening}
use Rattle.field_series.proofs.open_with_series.Goals as goal

pub with_series-requires : goal.with_series-requires
with_series-requires c = opening c.unpadded-a.ensures c.unpadded-b.ensures c.in_ok-f.ensures refl
