-- `book_body::period_of` meets its contract.
use Rattle.book_body.specs.Body.{body_of}
use borrow.Author.Rules.{rules}
use Rattle.book_body.proofs.period_of.Goals as goal

pub returns : goal.returns
unfolding body_of
returns c = search rules
