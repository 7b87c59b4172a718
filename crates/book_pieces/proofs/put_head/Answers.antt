-- `book_pieces::put_head` meets its contract.
use Rattle.book_pieces.proofs.Put.{head_put}
use Rattle.book_pieces.proofs.put_head.Goals as goal

pub returns : goal.returns
returns c = head_put _ _ _ _ _ _ _ _ _ _ _ _ _ _ _ _ _ _ _ _ _ _ c.put_two-x0.ensures c.put_two-x1.ensures c.put_two-x2.ensures
    c.put_two-x3.ensures c.put_two-x4.ensures c.put_two-x5.ensures c.put_four.ensures
