-- `unit_check::is_inverse` meets its contract.
use Rattle.unit_finish.proofs.Stored.{stored_g, stored_h, stored_gh}
use Rattle.unit_check.proofs.Answer.{product_in, inverse_gives}
use Rattle.unit_check.proofs.is_inverse.Goals as goal

pub to_stored-g-requires : goal.to_stored-g-requires
to_stored-g-requires c = stored_g c.requires.known.kept

pub to_stored-h-requires : goal.to_stored-h-requires
to_stored-h-requires c = stored_h c.requires.known.kept

pub to_stored-gh-requires : goal.to_stored-gh-requires
to_stored-gh-requires c = stored_gh c.requires.known.kept

pub product_is_one-requires : goal.product_is_one-requires
product_is_one-requires c = let a = c.args in
    product_in a.f a.c a.rows.now _ _ _ c.to_stored-g.ensures c.to_stored-h.ensures c.to_stored-gh.ensures c.requires

pub returns : goal.returns
returns c = let a = c.args in
    inverse_gives a.f a.c a.rows.now _ _ _ c.to_stored-g.ensures c.to_stored-h.ensures c.to_stored-gh.ensures _ c.product_is_one.ensures
