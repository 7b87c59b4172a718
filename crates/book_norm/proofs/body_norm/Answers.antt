-- `book_norm::body_norm` meets its contract.
use mathlib.Core.Path.{refl}
use Rattle.book_norm.proofs.Bodies.{g_in, h_in, a_in, b_in, c_in, norm_in, body_norm}
use Rattle.book_norm.proofs.body_norm.Goals as goal

pub load-requires : goal.load-requires
load-requires c = g_in _ c.requires.body

pub load-requires-2 : goal.load-requires-2
load-requires-2 c = h_in _ c.requires.body

pub load-requires-3 : goal.load-requires-3
load-requires-3 c = a_in _ c.requires.body

pub load-requires-4 : goal.load-requires-4
load-requires-4 c = b_in _ c.requires.body

pub load-requires-5 : goal.load-requires-5
load-requires-5 c = c_in _ c.requires.body

pub norm-requires : goal.norm-requires
norm-requires c = norm_in _ c.requires.body _ c.prime_of-p.ensures _ _ _ _ _ _ _ _ _ _ _ c.requires.room refl refl refl refl refl c.load.ensures
    c.load-2.ensures c.load-3.ensures c.load-4.ensures c.load-5.ensures

pub returns : goal.returns
returns c = body_norm _ c.requires.body _ c.prime_of-p.ensures _ _ _ _ _ _ _ _ _ _ _ _ c.load.ensures c.load-2.ensures c.load-3.ensures
    c.load-4.ensures c.load-5.ensures c.norm.ensures
