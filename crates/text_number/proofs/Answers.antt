-- One outcome for each input.
--   number_unique, size_unique   of `number` and `list_size`
use mathlib.Core.Path.{◌≡◌, refl, sym, ap, ◌∙◌}
use mathlib.Core.List.{List}
use Prim.Native.Nat.{ℕ}
use lib.ListN.{length}
use Rattle.std.specs.Prelude.{Option, Some, None}
use Rattle.text_number.specs.Tells.{NumberTells, SizeTells}

pub number_unique : (s : List ℕ) (r r₂ : Option ℕ) → NumberTells s r → NumberTells s r₂ → r ≡ r₂
number_unique s (Some v) (Some w) a b = ap Some (a.means ∙ sym b.means)
number_unique s (Some v) None a b = absurd (b v a)
number_unique s None (Some w) a b = absurd (a w b)
number_unique s None None a b = refl

pub size_unique : (s : List ℕ) (r r₂ : Option ℕ) → SizeTells s r → SizeTells s r₂ → r ≡ r₂
size_unique s (Some n) (Some m) a b = ap Some (sym a.2 ∙ ap length (a.1.means ∙ sym b.1.means) ∙ b.2)
size_unique s (Some n) None a b = absurd (b a.0 a.1)
size_unique s None (Some m) a b = absurd (a b.0 b.1)
size_unique s None None a b = refl
