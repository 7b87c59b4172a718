-- `book_pieces::put_lists` meets its contract.
use Rattle.book_pieces.proofs.Put.{lists_put}
use Rattle.book_pieces.proofs.put_lists.Goals as goal

pub returns : goal.returns
returns c = lists_put _ _ _ _ _ _ _ _ _ _ _ _ _ _ _ _ _ c.put_list-x0.ensures c.put_list-x1.ensures c.put_list-x2.ensures c.put_list-x3.ensures
    c.put_list.ensures
