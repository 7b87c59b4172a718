-- `field_open::open` meets its contract: what is not refused is accepted.
use Rattle.field_open.proofs.Accept.{accepted}
use Rattle.field_open.proofs.Paddings.{front_accepted}
use Rattle.field_open.proofs.open.Goals as goal

pub field_of-requires : goal.field_of-requires
field_of-requires c = front_accepted c.unpadded-a.ensures c.unpadded-b.ensures (accepted _ _ _ c.in_ok-refusal.ensures)
