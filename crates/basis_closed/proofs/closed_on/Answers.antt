-- `basis_closed::closed_on` meets its contract: r v and w v.
use mathlib.Core.Path.{refl}
use Rattle.basis_closed.proofs.Products.{by_gh, by_13, r_in, w_in, keeps_no, keeps_yes}
use Rattle.basis_closed.proofs.closed_on.Goals as goal

pub times_in-ka-requires : goal.times_in-ka-requires
times_in-ka-requires c = let i = c.requires in
    by_gh i i.hc i.sc refl

pub times_in-kc-requires : goal.times_in-kc-requires
times_in-kc-requires c = let i = c.requires in
    by_13 i i.hb i.sb i.given.hh i.sh refl

pub member-by_r-requires : goal.member-by_r-requires
member-by_r-requires c = r_in c.requires c.times_in-ka.ensures c.times_in-kc.ensures

pub times_in-ja-requires : goal.times_in-ja-requires
times_in-ja-requires c = let i = c.requires in
    by_gh i i.hb i.sb refl

pub times_in-jb-requires : goal.times_in-jb-requires
times_in-jb-requires c = let i = c.requires in
    by_13 i i.hc i.sc i.given.hg i.sg refl

pub member-by_w-requires : goal.member-by_w-requires
member-by_w-requires c = w_in c.requires c.times_in-ja.ensures c.times_in-jb.ensures

pub returns-then-by_r : goal.returns-then-by_r
returns-then-by_r c = let i = c.requires in
    let ra = c.times_in-ka.ensures.product in
    let rc = c.times_in-kc.ensures.product in
    let wa = c.times_in-ja.ensures.product in
    let wb = c.times_in-jb.ensures.product in
    keeps_yes i ra rc c.member-by_r.ensures c.if-by_r.true wa wb c.member-by_w.ensures

pub returns-else-by_r : goal.returns-else-by_r
returns-else-by_r c = let i = c.requires in
    let ra = c.times_in-ka.ensures.product in
    let rc = c.times_in-kc.ensures.product in
    keeps_no i ra rc c.member-by_r.ensures c.if-by_r.false
