-- `carry_between` meets its contract, case by case: proofs/Answering.antt.
use Rattle.door_transfer.proofs.Answering.{too_long, carry_asks, apart, straight_done, swapped_done}
use Rattle.door_transfer.proofs.carry_between.Goals as goal

pub returns-then-no_six_rows : goal.returns-then-no_six_rows
returns-then-no_six_rows c = too_long c.args.rows.now c.requires c.no_six_rows.ensures c.if-no_six_rows.true

pub carry-requires : goal.carry-requires
carry-requires c = carry_asks c.args.rows.now c.requires c.no_six_rows.ensures c.if-no_six_rows.false

pub carry_swapped-requires : goal.carry_swapped-requires
carry_swapped-requires c = carry_asks c.args.rows.now c.requires c.no_six_rows.ensures c.if-no_six_rows.false

pub returns-in-Straight : goal.returns-in-Straight
returns-in-Straight c = straight_done c.args.rows.now c.requires c.no_six_rows.ensures c.if-no_six_rows.false
    c.paired.ensures c.in-Straight.is _ c.carry.ensures

pub returns-in-Swapped : goal.returns-in-Swapped
returns-in-Swapped c = swapped_done c.args.rows.now c.requires c.no_six_rows.ensures c.if-no_six_rows.false
    c.paired.ensures c.in-Swapped.is _ c.carry_swapped.ensures

pub returns-in-Apart : goal.returns-in-Apart
returns-in-Apart c = apart c.args.rows.now c.requires c.no_six_rows.ensures c.if-no_six_rows.false
    c.paired.ensures c.in-Apart.is
