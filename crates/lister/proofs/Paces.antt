-- The lister's way through a piece.
--   Stride k s d g r k' d'   a step from g to r, in the terms of crate text_cut: lines met, their answers, at most `room` bytes
--   stride                   a step is one
--   Pace k s d g r k' d'     some steps, each answer put whole
--   way_pace, passes_pace    such a way is one; where there is room for an answer, it goes forward
use mathlib.Core.Path.{◌≡◌, refl, sym, ◌∙◌, subst}
use mathlib.Core.Logic.{◌⊎◌, inl, inr}
use mathlib.Core.List.{List, ◌++◌}
use Prim.Native.Nat.{ℕ, ◌+◌, ◌≤◌, ◌<◌}
use native.Mathlib.Omega.{arith}
use lib.ListN.{length, take, length-append}
use Rattle.base_lists.specs.Pieces.{Put}
use Rattle.text_put.specs.Print.{refused_text}
use Rattle.base_lists.proofs.Puts.{placed_same, put_fits}
use Rattle.text_cut.specs.Tells.{CutTells}
use Rattle.text_cut.specs.Feed.{Served}
use Rattle.text_cut.specs.declared.Step.{Step}
use Rattle.text_cut.specs.declared.Step.TheVariants.{Whole, Broken, Pending}
use Rattle.text_cut.proofs.Serves.{served_none, served_whole, served_broken, served_pending, served_then}
use Rattle.text_cut.proofs.Steps.{whole_step, broken_step}
use Rattle.lister.specs.declared.Going.{Going}
use Rattle.lister.specs.Listing.{room, Lists, Answer, Does, Steps, Way, here, more, Passes}
use Rattle.lister.proofs.Short.{refused_short, lists_short}

pub going_same : {r q : Going} → r.at ≡ q.at → r.n ≡ q.n → r.to ≡ q.to → r ≡ q
going_same a b c = λ i. record { at = a i; n = b i; to = c i }

-- ---- one step
pub record Stride (k s d : List ℕ) (g r : Going) (k' d' : List ℕ) : Type 0 where
  pub served : Served Lists k g.n s g.at d g.to k' r.n r.at d' r.to
  pub forward : g.at < length s → g.at < r.at
  pub short : length served.text ≤ room

module _ (k s d : List ℕ) (g : Going) (k' : List ℕ) where
  whole_stride : (m next to : ℕ) (d' : List ℕ) → CutTells k g.n s g.at (Whole m next) k' → Answer (take m k') d g.to to d'
      → Stride k s d g (record { at = next; n = 0; to = to }) k' d'
  unfolding served_whole
  whole_stride m next to d' c a = record {
    served = served_whole k g.n s g.at d g.to m next k' a.text to d' c a.lists a.put;
    forward = λ h. (whole_step k g.n s g.at k' refl c).1;
    short = lists_short a.lists;
  }

  broken_stride : (next to : ℕ) (d' : List ℕ) → CutTells k g.n s g.at (Broken next) k' → Put d g.to (refused_text 12) to d'
      → Stride k s d g (record { at = next; n = 0; to = to }) k' d'
  unfolding served_broken
  broken_stride next to d' c p = record {
    served = served_broken k g.n s g.at d g.to next k' to d' c p;
    forward = λ h. (broken_step k g.n s g.at k' refl c).0;
    short = (let o = refused_short 12 (omega arith) in omega arith);
  }

  pending_stride : (m : ℕ) → CutTells k g.n s g.at (Pending m) k' → Stride k s d g (record { at = length s; n = m; to = g.to }) k' d
  unfolding served_pending
  pending_stride m c = record {
    served = served_pending k g.n s g.at d g.to m k' c;
    forward = λ h. h;
    short = omega arith;
  }

  stride_by : (c : Step) (r : Going) (d' : List ℕ) → CutTells k g.n s g.at c k' → Does s d g c k' r d' → Stride k s d g r k' d'
  stride_by (Whole m next) r d' c (a, b, x) = subst (λ z. Stride k s d g z k' d') (sym (going_same a b refl)) (whole_stride m next r.to d' c x)
  stride_by (Broken next) r d' c (a, b, x) = subst (λ z. Stride k s d g z k' d') (sym (going_same a b refl)) (broken_stride next r.to d' c x)
  stride_by (Pending m) r d' c (a, b, x, y) = subst (λ z. Stride k s d g z k' d') (sym (going_same a b x)) (subst (λ z. Stride k s d g (record { at = length s; n = m; to = g.to }) k' z) (sym y) (pending_stride m c))

pub stride : {k s d : List ℕ} {g r : Going} {k' d' : List ℕ} → Steps k s d g r k' d' → Stride k s d g r k' d'
stride {k} {s} {d} {g} {r} {k'} {d'} x = stride_by k s d g k' x.c r d' x.cuts x.does

-- ---- several
pub record Pace (k s d : List ℕ) (g r : Going) (k' d' : List ℕ) : Type 0 where
  pub out_same : length d' ≡ length d
  pub served : Served Lists k g.n s g.at d g.to k' r.n r.at d' r.to
  pub whole : r.to ≡ g.to + length served.text
  pub inside : g.to ≤ length d → r.to ≤ length d
  pub after : g.at ≤ r.at
  pub moved : (r.to ≡ g.to) ⊎ (g.at < r.at)

pace_none : (k s d : List ℕ) (g : Going) → Pace k s d g g k d
unfolding served_none
pace_none k s d g = record {
  out_same = refl;
  served = served_none k g.n s g.at d g.to;
  whole = (let e : g.to ≡ g.to + 0 = omega arith in e);
  inside = λ h. h;
  after = omega arith;
  moved = inl refl;
}

pace_more : {k s d : List ℕ} {g r : Going} {k' d' : List ℕ} {q : Going} {k₂ d₂ : List ℕ} → Pace k s d g r k' d'
    → r.at < length s → r.to + room ≤ length d → Stride k' s d' r q k₂ d₂ → Pace k s d g q k₂ d₂
unfolding served_then
pace_more {k} {s} {d} {g} {r} {k'} {d'} {q} {k₂} {d₂} a h l b =
    let w : q.to ≡ r.to + length b.served.text = (put_fits b.served.put (let o = b.short in let e = a.out_same in omega arith)).0 in
    let e : r.to ≡ g.to + length a.served.text = a.whole in
    let f : length (a.served.text ++ b.served.text) ≡ length a.served.text + length b.served.text = length-append a.served.text b.served.text in
    let x : g.at ≤ r.at = a.after in
    let y : r.at < q.at = b.forward h in
    record {
      out_same = placed_same b.served.put ∙ a.out_same;
      served = served_then a.served b.served;
      whole = (let o : q.to ≡ g.to + length (a.served.text ++ b.served.text) = omega arith in o);
      inside = λ i. (let o = b.short in omega arith);
      after = omega arith;
      moved = inr (omega arith);
    }

pub way_pace : {k s d : List ℕ} {g : Going} {i : ℕ} {r : Going} {k' d' : List ℕ} → Way k s d g i r k' d' → Pace k s d g r k' d'
way_pace {k} {s} {d} {g} here = pace_none k s d g
way_pace (more w h l x) = pace_more (way_pace w) h l (stride x)

module _ {k s d : List ℕ} {g r : Going} {k' d' : List ℕ} (x : Passes k s d g r k' d') where
  pub passes_pace : Pace k s d g r k' d'
  passes_pace = way_pace x.way

  pub passes_forward : g.at < length s → g.to + room ≤ length d → g.at < r.at
  passes_forward u v = go passes_pace.moved x.stops
    where
      go : (r.to ≡ g.to) ⊎ (g.at < r.at) → (length s ≤ r.at) ⊎ (length d < r.to + room) → g.at < r.at
      go (inr m) e = m
      go (inl e) (inl f) = omega arith
      go (inl e) (inr f) = absurd (omega arith)
