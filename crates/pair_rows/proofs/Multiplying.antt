-- The rows, each times its factor.
--   part_made         what stands in the slice after a part of it was lent to `scale`
--   multiplied_made   four parts one after the other, E0 and F0 left out
use mathlib.Core.Path.{◌≡◌, sym, ap, ◌∙◌, subst}
use mathlib.Core.List.{List, ◌++◌}
use Prim.Native.Nat.{ℕ, ◌+◌, ◌*◌, ◌-◌, ◌%◌, ◌<◌}
use native.Mathlib.Nat.{mul_comm}
use native.Mathlib.Omega.{arith}
use lib.ListN.{length, get_or, take, drop}
use lib.Seq.{get_or-take, get_or-drop}
use Rattle.poly_long.specs.Long.{Scaled}
use Rattle.base_lists.specs.Pieces.{between}
use Rattle.base_lists.proofs.Pieces.{between_length}
use Rattle.base_lists.proofs.Puts.{Around, put_back}
use Rattle.pair_laws.specs.Rows.{Straight}
use Rattle.pair_rows.specs.Code.{PartAsks, Part, Multiplied}

module _ (p k at c : ℕ) (l : List ℕ) (h : PartAsks p k at c l) where
  long : length (between at (at + c) l) ≡ c
  long = between_length at (at + c) l (omega arith) h.inside ∙ (let o : at + c - at ≡ c = omega arith in o)

  mid_at : (i : ℕ) → i < c → get_or (between at (at + c) l) i 0 ≡ get_or l (at + i) 0
  mid_at i u = get_or-take (at + c - at) (drop at l) i 0 (omega arith) ∙ get_or-drop at l i 0

  pub part_made : (d : List ℕ) (m : ℕ) → m ≡ c → Scaled p k (between at (at + c) l) d → Part p k at c l (take at l ++ (d ++ drop m (drop at l)))
  part_made d m e s =
      let put : Around at c l d (take at l ++ (d ++ drop m (drop at l))) = subst (λ j. Around at c l d (take at l ++ (d ++ drop j (drop at l)))) (sym e) (put_back at c l d h.inside (s.size ∙ long)) in
      let z = long in record {
        size = put.size;
        before = put.before;
        times = λ i u. put.inside i u ∙ s.at i (omega arith) ∙ ap (λ x. (x * k) % p) (mid_at i u) ∙ ap (λ x. x % p) (mul_comm (get_or l (at + i) 0) k);
        after = put.after;
      }

module _ (p x y c : ℕ) (l l₁ l₂ l₃ l₄ : List ℕ) (a : Part p x c c l l₁) (b : Part p y (c + c) c l₁ l₂) (d : Part p x (c + c + (c + c)) c l₂ l₃) (e : Part p y (c + c + (c + c) + c) c l₃ l₄) where
  E : Straight p c x y l 0 l₄
  E = record {
    A = λ i u. e.before (0 + i) (omega arith) ∙ d.before (0 + i) (omega arith) ∙ b.before (0 + i) (omega arith) ∙ a.before (0 + i) (omega arith);
    B = λ i u. e.before (0 + c + i) (omega arith) ∙ d.before (0 + c + i) (omega arith) ∙ b.before (0 + c + i) (omega arith)
        ∙ ap (λ j. get_or l₁ j 0) (let o : 0 + c + i ≡ c + i = omega arith in o) ∙ a.times i u ∙ ap (λ j. (x * get_or l j 0) % p) (let o : c + i ≡ 0 + c + i = omega arith in o);
    C = λ i u. e.before (0 + c + c + i) (omega arith) ∙ d.before (0 + c + c + i) (omega arith)
        ∙ ap (λ j. get_or l₂ j 0) (let o : 0 + c + c + i ≡ c + c + i = omega arith in o) ∙ b.times i u
        ∙ ap (λ z. (y * z) % p) (a.after (c + c + i) (omega arith)) ∙ ap (λ j. (y * get_or l j 0) % p) (let o : c + c + i ≡ 0 + c + c + i = omega arith in o);
  }

  F : Straight p c x y l (c + c + c) l₄
  F = record {
    A = λ i u. e.before (c + c + c + i) (omega arith) ∙ d.before (c + c + c + i) (omega arith) ∙ b.after (c + c + c + i) (omega arith) ∙ a.after (c + c + c + i) (omega arith);
    B = λ i u.
        let o : c + c + c + c + i ≡ c + c + (c + c) + i = omega arith in
        e.before (c + c + c + c + i) (omega arith) ∙ ap (λ j. get_or l₃ j 0) o ∙ d.times i u ∙ ap (λ j. (x * get_or l₂ j 0) % p) (sym o)
        ∙ ap (λ z. (x * z) % p) (b.after (c + c + c + c + i) (omega arith) ∙ a.after (c + c + c + c + i) (omega arith));
    C = λ i u.
        let o : c + c + c + c + c + i ≡ c + c + (c + c) + c + i = omega arith in
        ap (λ j. get_or l₄ j 0) o ∙ e.times i u ∙ ap (λ j. (y * get_or l₃ j 0) % p) (sym o)
        ∙ ap (λ z. (y * z) % p) (d.after (c + c + c + c + c + i) (omega arith) ∙ b.after (c + c + c + c + c + i) (omega arith) ∙ a.after (c + c + c + c + c + i) (omega arith));
  }

  pub multiplied_made : Multiplied p x y c l l₄
  multiplied_made = record { size = e.size ∙ d.size ∙ b.size ∙ a.size; E = E; F = F }
