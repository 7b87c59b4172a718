-- `poly_euclid::lowered` meets its contract: the leading terms cancel.
use mathlib.Core.Path.{◌≡◌}
use Prim.Native.Nat.{◌≤◌, ◌<◌}
use native.Mathlib.Omega.{arith}
use lib.ListN.{length}
use Rattle.poly_euclid.proofs.Turns.{lowered_asks, lowered_cut, lowered_made}
use Rattle.poly_euclid.proofs.lowered.Goals as goal

pub overflow_sub-s : goal.overflow_sub-s
overflow_sub-s c = let u : 0 < c.args.m = c.requires.some in omega arith

pub offset_bounds-y-m : goal.offset_bounds-y-m
offset_bounds-y-m c = let f : c.args.m ≤ length c.args.y.now = c.requires.sy.fits in
    let e : length c.args.y.now ≡ 32 = c.requires.rows.hy.size in
    record { fits = omega arith }

pub bounds-y-m : goal.bounds-y-m
bounds-y-m c = let u : 0 < c.args.m = c.requires.some in
    let f : c.args.m ≤ length c.args.y.now = c.requires.sy.fits in
    omega arith

pub overflow_sub-c : goal.overflow_sub-c
overflow_sub-c c = let u : 0 < c.args.m = c.requires.some in
    let v : c.args.m ≤ c.args.n = c.requires.over in
    omega arith

pub offset_bounds-x-n : goal.offset_bounds-x-n
offset_bounds-x-n c = let f : c.args.n ≤ length c.args.x.now = c.requires.sx.fits in
    let e : length c.args.x.now ≡ 32 = c.requires.rows.hx.size in
    record { fits = omega arith }

pub bounds-x-n : goal.bounds-x-n
bounds-x-n c = let u : 0 < c.args.m = c.requires.some in
    let v : c.args.m ≤ c.args.n = c.requires.over in
    let f : c.args.n ≤ length c.args.x.now = c.requires.sx.fits in
    omega arith

pub overflow_sub-n : goal.overflow_sub-n
overflow_sub-n c = c.requires.over

pub cross_in-requires : goal.cross_in-requires
cross_in-requires c = lowered_asks c.requires

pub overflow_sub-n-2 : goal.overflow_sub-n-2
overflow_sub-n-2 c = let u : 0 < c.args.m = c.requires.some in
    let v : c.args.m ≤ c.args.n = c.requires.over in
    omega arith

pub size_from-requires : goal.size_from-requires
size_from-requires c = lowered_cut c.requires c.cross_in.ensures.crossed

pub returns : goal.returns
returns c = lowered_made c.requires c.cross_in.ensures.crossed c.size_from.ensures
