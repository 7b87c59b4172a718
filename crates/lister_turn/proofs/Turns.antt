-- One outcome for each input.
--   plan_unique    what comes next
--   ended_unique   after the input's end
use mathlib.Core.Path.{◌≡◌, refl, sym, ◌∙◌}
use mathlib.Core.List.{List}
use Prim.Native.Nat.{ℕ}
use native.Mathlib.Omega.{arith}
use Rattle.base_lists.proofs.Puts.{placed_unique}
use Rattle.lister_turn.specs.declared.Stand.{Stand}
use Rattle.lister_turn.specs.declared.Act.{Act}
use Rattle.lister_turn.specs.declared.Act.TheVariants.{Write, Answer, Read, Stop}
use Rattle.lister_turn.specs.Turn.{Plans, Ended}

module _ (s : Stand) where
  pub plan_unique : (a b : Act) → Plans s a → Plans s b → a ≡ b
  plan_unique (Write fd f t) (Write fd' f' t') (x, y, z, l) (x', y', z', l') = λ i. Write ((x ∙ sym x') i) ((y ∙ sym y') i) ((z ∙ sym z') i)
  plan_unique (Write fd f t) Answer (x, y, z, l) (u, v) = absurd (omega arith)
  plan_unique (Write fd f t) (Read fd') (x, y, z, l) (u, v, w, o) = absurd (omega arith)
  plan_unique (Write fd f t) Stop (x, y, z, l) (u, v, w) = absurd (omega arith)
  plan_unique Answer (Write fd f t) (u, v) (x, y, z, l) = absurd (omega arith)
  plan_unique Answer Answer x y = refl
  plan_unique Answer (Read fd) (u, v) (x, y, z, l) = absurd (omega arith)
  plan_unique Answer Stop (u, v) (x, y, z) = absurd (omega arith)
  plan_unique (Read fd) (Write fd' f t) (u, v, w, o) (x, y, z, l) = absurd (omega arith)
  plan_unique (Read fd) Answer (x, y, z, l) (u, v) = absurd (omega arith)
  plan_unique (Read fd) (Read fd') (x, y, z, l) (x', y', z', l') = λ i. Read ((x ∙ sym x') i)
  plan_unique (Read fd) Stop (x, y, z, l) (u, v, w) = absurd (w l)
  plan_unique Stop (Write fd f t) (u, v, w) (x, y, z, l) = absurd (omega arith)
  plan_unique Stop Answer (x, y, z) (u, v) = absurd (omega arith)
  plan_unique Stop (Read fd) (u, v, w) (x, y, z, l) = absurd (w l)
  plan_unique Stop Stop x y = refl

pub ended_unique : {d : List ℕ} {s r q : Stand} {d' e : List ℕ} → Ended d s r d' → Ended d s q e → (r ≡ q) × (d' ≡ e)
ended_unique x y =
    let (t, u) = placed_unique x.ends y.ends in
    (λ i. record { n = (x.n ∙ sym y.n) i; at = (x.at ∙ sym y.at) i; m = (x.m ∙ sym y.m) i; from = (x.from ∙ sym y.from) i; to = t i; phase = (x.phase ∙ sym y.phase) i }, u)
