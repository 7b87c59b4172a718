-- `book_norm::constant_norm` meets its contract.
use borrow.Author.Tests.{eqb-true, eqb-false}
use Rattle.book_norm.proofs.Bodies.{attested_yes, attested_no}
use Rattle.book_norm.proofs.constant_norm.Goals as goal

pub returns : goal.returns
returns c = record {
  yes! = λ e. attested_yes _ _ _ _ c.body_norm.ensures c.size.ensures (eqb-true c.size.result 1 e);
  no! = λ e. attested_no _ _ _ _ c.requires c.body_norm.ensures c.size.ensures (eqb-false c.size.result 1 e);
}
