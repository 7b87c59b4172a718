-- `units::turn` meets its contract: each arm is a turn.
use Rattle.units.proofs.Turning.{turn_writes, turn_answers, turn_reads, turn_stops}
use Rattle.units.proofs.turn.Goals as goal

pub returns-in-Write : goal.returns-in-Write
returns-in-Write g c = turn_writes _ _ _ _ _ _ c.write-got.result c.in-Write.ensures c.write-got.ensures.bound c.write-got.ensures.bytes c.wrote.ensures

pub returns-in-Answer : goal.returns-in-Answer
returns-in-Answer g c = turn_answers _ _ _ _ _ _ c.in-Answer.ensures c.answer.ensures

pub returns-in-Read : goal.returns-in-Read
returns-in-Read g c = turn_reads _ _ _ _ _ _ c.read-got.result c.in-Read.ensures c.read-got.auto.buf c.read-got.ensures.bound c.read-got.ensures.bytes c.heard.ensures

pub returns-in-Stop : goal.returns-in-Stop
returns-in-Stop g c = turn_stops _ _ _ _ _ _ c.in-Stop.ensures c.stopped.ensures
