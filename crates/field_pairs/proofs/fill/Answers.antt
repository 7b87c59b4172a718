-- `field_pairs::fill` meets its contract. The loop's invariant: the two lists are filled up to i, and r begins with the cube root.
use Prim.Native.Nat.{◌<◌, ◌*◌, ◌%◌}
use mathlib.Core.Path.{◌≡◌, ◌∙◌, sym, ap, ap₂, refl, subst}
use native.Mathlib.Omega.{arith}
use lib.Seq.{get_or-set_same}
use lib.ListN.{length, length-set}
use Rattle.field_next.specs.Next.{Filled}
use Rattle.field_pairs.proofs.Filling.{started, made_none}
use Rattle.field_next.proofs.Step.{w_first}
use Rattle.field_pairs.proofs.fill.Goals as goal

pub loop-i-init : goal.loop-i-init
loop-i-init c = let r = c.args.r.now in
    let w = c.args.w.now in
    let x = c.first_w-x.result in
    let some : 0 < length r = omega arith in (
      refl,
      length-set w 0 x ∙ c.requires.even ∙ sym (length-set r 0 c.args.c),
      get_or-set_same r 0 c.args.c 0 some,
      started c.args.p c.args.g.now c.args.h.now c.args.c c.args.u r w x c.requires some
          (c.first_w-x.ensures.value ∙ ap₂ (λ a b. w_first c.args.p a b c.args.c c.args.u) c.coefficient.ensures.value c.coefficient-then-r-gt0.ensures.value),
    )

pub next_pair-requires : goal.next_pair-requires
next_pair-requires c = let inv = c.loop-i.invariant in
    record {
      pos = c.requires.pos;
      small = c.requires.small;
      u_below = c.requires.u_below;
      unit = ap (λ a. (3 * (a * a) * c.args.u) % c.args.p) inv.2 ∙ c.requires.unit;
      some = omega arith;
      inside = omega (arith, inv.0);
      near = omega (arith, inv.0, length-set c.args.r.now 0 c.args.c, c.requires.near);
      done = inv.3;
    }

pub loop-i-preserved : goal.loop-i-preserved
loop-i-preserved c = let done = c.next_pair.ensures in
    let inv = c.loop-i.invariant in
    (done.size ∙ inv.0, done.done.even, done.first ∙ inv.2, done.done)

pub shape_of-r : goal.shape_of-r
shape_of-r c = c.loop-i.invariant.0 ∙ length-set c.args.r.now 0 c.args.c

pub shape_of-w : goal.shape_of-w
shape_of-w c = c.loop-i.invariant.1 ∙ c.loop-i.invariant.0 ∙ length-set c.args.r.now 0 c.args.c ∙ sym c.requires.even

pub returns-after-loop-i : goal.returns-after-loop-i
returns-after-loop-i c = let inv = c.loop-i.invariant in
    let size : length c.loop-i.r ≡ length c.args.r.now = inv.0 ∙ length-set c.args.r.now 0 c.args.c in
    let end : c.loop-i.i ≡ length c.args.r.now = omega arith in
    record { size = size; first = λ q. inv.2; done = subst (λ n. Filled c.args.p c.args.g.now c.args.h.now c.loop-i.r c.loop-i.w n) end inv.3 }

pub returns-else-r-gt0 : goal.returns-else-r-gt0
returns-else-r-gt0 c = made_none c.args.p c.args.g.now c.args.h.now c.args.c c.args.u c.args.r.now c.args.w.now c.requires c.if-r-gt0.false
