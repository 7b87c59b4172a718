-- A list of 119 numbers.
--   below_decides    a test of all 119 numbers decides, as past the end stands 0
use mathlib.Core.Path.{◌≡◌, sym, ◌∙◌}
use mathlib.Core.Bool.{Bool, true, true≢false}
use mathlib.Core.List.{List}
use Prim.Native.Nat.{ℕ, ◌<◌}
use native.Mathlib.Omega.{arith}
use native.Mathlib.Decide.{dec_lt}
use lib.ListN.{length, get_or, get_or-eq_default}
use Rattle.std.specs.Prelude.{◌↔◌}
use Rattle.base_answers.specs.Decides.{Decides}
use Rattle.basis_bounds.specs.Bounds.{Below}

below_end : (p : ℕ) (B : List ℕ) → length B ≡ 119 → ((k : ℕ) → k < length B → get_or B k 0 < p) → Below p B
below_end p B l h k = elim (dec_lt k 119) [
  | yes g ↦ h k (omega arith)
  | no g ↦ let e : get_or B k 0 ≡ 0 = get_or-eq_default B 0 {n = k} (omega arith) in let z : get_or B 0 0 < p = h 0 (omega arith) in omega arith
]

pub below_decides : {p : ℕ} (B : List ℕ) {r : Bool} → length B ≡ 119 → ((r ≡ true) ↔ ((k : ℕ) → k < length B → get_or B k 0 < p)) → Decides r (Below p B)
below_decides {p} B l h = record { yes! = λ e. below_end p B l (h.0 e); no! = λ e b. true≢false (sym (h.1 (λ k w. b k)) ∙ e) }
