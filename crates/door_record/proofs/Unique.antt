-- Two records that one record advances to are the same.
use mathlib.Core.Path.{◌≡◌, sym, ◌∙◌, subst}
use Prim.Native.Nat.{ℕ}
use native.Mathlib.Omega.{arith}
use Rattle.field_open.proofs.Door.{door_unique}
use Rattle.walk_chain.specs.Walk.{WalkAnswer}
use Rattle.walk_chain.proofs.Walk.{walks_unique}
use Rattle.walk_record.specs.declared.WalkRecord.{WalkRecord}
use Rattle.door_record.specs.Advance.{After, closed, spent, refused, Advances, passed, unfit, walked}

after_unique : (r : WalkRecord) (w : WalkAnswer) (o o' : WalkRecord) → After r w o → After r w o' → o ≡ o'
after_unique r w o o' (closed z e) (closed z' e') = e ∙ sym e'
after_unique r w o o' (closed z e) (spent t e') = absurd (omega arith)
after_unique r w o o' (closed z e) (refused f g e') = absurd (f z)
after_unique r w o o' (spent t e) (closed z e') = absurd (omega arith)
after_unique r w o o' (spent t e) (spent t' e') = e ∙ sym e'
after_unique r w o o' (spent t e) (refused f g e') = absurd (g t)
after_unique r w o o' (refused f g e) (closed z e') = absurd (f z)
after_unique r w o o' (refused f g e) (spent t e') = absurd (g t)
after_unique r w o o' (refused f g e) (refused f' g' e') = e ∙ sym e'

pub advances_unique : (b : ℕ) (r o o' : WalkRecord) → Advances b r o → Advances b r o' → o ≡ o'
advances_unique b r o o' (passed s e) (passed s' e') = e ∙ sym e'
advances_unique b r o o' (passed s e) (unfit f u d) = absurd (f s)
advances_unique b r o o' (passed s e) (walked f u w h a) = absurd (f s)
advances_unique b r o o' (unfit f u d) (passed s e) = absurd (f s)
advances_unique b r o o' (unfit f u d) (unfit f' u' d') = door_unique (λ n x y. x ∙ sym y) (λ A x y. x ∙ sym y) d d'
advances_unique b r o o' (unfit f u d) (walked f' u' w h a) = absurd (u' u)
advances_unique b r o o' (walked f u w h a) (passed s e) = absurd (f s)
advances_unique b r o o' (walked f u w h a) (unfit f' u' d) = absurd (u u')
advances_unique b r o o' (walked f u w h a) (walked f' u' v k c) =
    after_unique r w o o' a (subst (λ x. After r x o') (walks_unique _ _ _ _ _ v w k h) c)
