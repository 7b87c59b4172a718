-- From one pair to another that agrees with it, in either order.
--   lead             a leading coefficient is a number from 1 to p − 1
--   multiply_asks    the factors are below p
--   carried_made     the rows times the factors
--   swapped_asks, swapped_made   the rows exchanged first, then carried over from H, G
use mathlib.Core.Path.{◌≡◌, ap, ◌∙◌}
use mathlib.Core.Logic.{◌≢◌}
use mathlib.Core.List.{List}
use Prim.Native.Nat.{ℕ, ◌+◌, ◌*◌, ◌%◌, ◌<◌}
use native.Mathlib.Omega.{arith}
use lib.ListN.{length}
use Rattle.field_open.specs.Refusal.{Degree}
use Rattle.pair_laws.specs.OneField.{leading}
use Rattle.pair_laws.specs.Rows.{Law, Crossed}
use Rattle.pair_laws.proofs.Lists.{leading_below, leading_some}
use Rattle.pair_factors.specs.Code.{Kind, Lead}
use Rattle.pair_rows.specs.Code.{Exchanged, MultipliedAsks, Multiplied}
use Rattle.pair_carry.specs.Code.{CarryAsks, Carried, CarriedSwapped}
use Rattle.pair_rows.proofs.Exchanging.{first_at, second_at}

pub lead : (p : ℕ) → Kind p → {l : List ℕ} {n : ℕ} → Degree p l n → Lead p (leading l)
lead p k {l} d = record { some = let f : leading l ≢ 0 = leading_some p k.prime d in omega arith; below = leading_below p k.prime d }

module _ (p : ℕ) (G H G' H' : List ℕ) (c : ℕ) (l : List ℕ) (h : CarryAsks p G H G' H' c l) where
  pub multiply_asks : (x y : ℕ) → x < p → y < p → MultipliedAsks p x y c l
  multiply_asks x y u v = record { modulus = record { prime = h.modulus.prime; small = h.modulus.small }; x_below = u; y_below = v; whole = h.whole }

  module _ (x y : ℕ) (w : Law p x y (leading G) (leading H) (leading G') (leading H')) where
    pub carried_made : (l' : List ℕ) → Multiplied p x y c l l' → Carried p G H G' H' c l l'
    carried_made l' m = record { size = m.size; x = x; y = y; law = w; E = m.E; F = m.F }

  pub swapped_asks : (l' : List ℕ) → length l' ≡ length l → CarryAsks p H G G' H' c l'
  swapped_asks l' e = record {
    modulus = h.modulus;
    first = record { deg_g = h.first.deg_h; deg_h = h.first.deg_g; list_g = h.first.list_h; list_h = h.first.list_g };
    second = h.second;
    whole = e ∙ h.whole;
  }

  module _ (l₁ l₂ : List ℕ) (a : Exchanged c (c + c) c l l₁) (b : Exchanged (c + c + (c + c)) (c + c + (c + c) + c) c l₁ l₂)
      (l₃ : List ℕ) (d : Carried p H G G' H' c l₂ l₃) where
    E : Crossed p c d.x d.y l 0 l₃
    E = record {
      A = λ i u. d.E.A i u ∙ b.before (0 + i) (omega arith) ∙ a.before (0 + i) (omega arith);
      B = λ i u. d.E.B i u ∙ ap (λ z. (d.x * z) % p) (b.before (0 + c + i) (omega arith) ∙ first_at c (c + c) c l l₁ a i (0 + c + i) (0 + c + c + i) u (omega arith) (omega arith));
      C = λ i u. d.E.C i u ∙ ap (λ z. (d.y * z) % p) (b.before (0 + c + c + i) (omega arith) ∙ second_at c (c + c) c l l₁ a i (0 + c + c + i) (0 + c + i) u (omega arith) (omega arith));
    }

    F : Crossed p c d.x d.y l (c + c + c) l₃
    F = record {
      A = λ i u. d.F.A i u ∙ b.before (c + c + c + i) (omega arith) ∙ a.after (c + c + c + i) (omega arith);
      B = λ i u. d.F.B i u ∙ ap (λ z. (d.x * z) % p) (first_at (c + c + (c + c)) (c + c + (c + c) + c) c l₁ l₂ b i (c + c + c + c + i) (c + c + c + c + c + i) u (omega arith) (omega arith) ∙ a.after (c + c + c + c + c + i) (omega arith));
      C = λ i u. d.F.C i u ∙ ap (λ z. (d.y * z) % p) (second_at (c + c + (c + c)) (c + c + (c + c) + c) c l₁ l₂ b i (c + c + c + c + c + i) (c + c + c + c + i) u (omega arith) (omega arith) ∙ a.after (c + c + c + c + i) (omega arith));
    }

    pub swapped_made : CarriedSwapped p G H G' H' c l l₃
    swapped_made = record { size = d.size ∙ b.size ∙ a.size; x = d.x; y = d.y; law = d.law; E = E; F = F }
