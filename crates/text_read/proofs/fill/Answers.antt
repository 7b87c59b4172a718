-- `text_read::fill` meets its contract.
use Prim.Native.Nat.{◌+◌, ◌≤◌, ◌<◌}
use mathlib.Core.Path.{sym, ap, subst, ◌∙◌}
use native.Mathlib.Omega.{arith}
use lib.ListN.{length, set}
use Rattle.std.proofs.Common.{rules, tests}
use Rattle.std.specs.Iterator.Adapters.{enumerate_source, enumerate_count}
use Rattle.text_put.specs.Print.{comma}
use Rattle.text_cut.specs.Pieces.{pieces}
use Rattle.text_number.specs.Grammar.{Number}
use Rattle.text_number.proofs.Taken.{left_split, numbered_all, numbered_piece, numbered_none}
use Rattle.text_number.proofs.Lists.{Filling, filling_none, filling_more, filling_end}
use Rattle.text_read.proofs.fill.Goals as goal

pub loop-n-init : goal.loop-n-init
loop-n-init c = let i = c.into_iter-n-iterator.ensures.into_iter_gives in let e = c.enumerate-n-items.ensures in let s = c.split.ensures in (
  0,
  numbered_all (ap enumerate_count i ∙ e.count)
      (left_split comma c.args.s.now s.runs (ap enumerate_source i ∙ e.source) s.rest s.done s.closure (λ x r q k. search (rules, tests))),
  filling_none c.args.s.now c.args.out.now,
)

pub offset_bounds-out-n : goal.offset_bounds-out-n
offset_bounds-out-n c =
    let (n, a, f) = c.loop-n.invariant in
    let (e, i, p, b) = numbered_piece c.next.new.self a (c.in-Some.n, c.in-Some.part) c.in-Some.ensures.steps in
    let l = f.same in
    let r : length (pieces comma c.args.s.now) ≤ length c.args.out.now = c.requires in
    let g : c.in-Some.n < length c.loop-n.out = omega arith in
    search rules

pub bounds-out-n : goal.bounds-out-n
bounds-out-n c =
    let (n, a, f) = c.loop-n.invariant in
    let (e, i, p, b) = numbered_piece c.next.new.self a (c.in-Some.n, c.in-Some.part) c.in-Some.ensures.steps in
    let l = f.same in
    let r : length (pieces comma c.args.s.now) ≤ length c.args.out.now = c.requires in
    omega arith

pub loop-n-preserved : goal.loop-n-preserved
loop-n-preserved c =
    let (n, a, f) = c.loop-n.invariant in
    let (e, i, p, b) = numbered_piece c.next.new.self a (c.in-Some.n, c.in-Some.part) c.in-Some.ensures.steps in (
      n + 1,
      b,
      subst (λ k. Filling c.args.s.now c.args.out.now (set c.loop-n.out k c.value_of.result) (n + 1)) (sym e)
          (filling_more c.args.s.now c.args.out.now c.loop-n.out n c.value_of.result i c.requires (λ m r. c.value_of.ensures m (subst (λ z. Number z m) p r)) f),
    )

pub shape_of-out : goal.shape_of-out
shape_of-out c = c.loop-n.invariant.2.same

pub returns : goal.returns
returns c = let (n, a, f) = c.loop-n.invariant in
    filling_end c.args.s.now c.args.out.now c.loop-n.out n (numbered_none c.next.new.self a c.in-None.ensures.steps) f
