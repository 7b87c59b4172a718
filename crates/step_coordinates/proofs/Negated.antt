-- A row negated in place.
use mathlib.Core.Path.{◌≡◌, sym, ap, ◌∙◌}
use mathlib.Core.List.{List}
use Prim.Native.Nat.{ℕ, ◌-◌, ◌%◌, ◌<◌, ◌≤◌}
use native.Mathlib.Nat.{mod_self, mod-eq_of_lt}
use native.Mathlib.Omega.{arith}
use native.Mathlib.Decide.{dec_lt}
use lib.ListN.{length, get_or}
use lib.Seq.{ext_get_or}
use Rattle.math_rows.specs.Row.{tab}
use Rattle.math_rows.proofs.Tab.{at_tab, length_tab}
use Rattle.poly_rows.proofs.Leaf.{opposite}
use Rattle.poly_sums.proofs.Sums.{Over}
use Rattle.step_coordinates.specs.Turns.{NegateAsks, Negated}

module _ {p : ℕ} {x : List ℕ} {n : ℕ} (h : NegateAsks p x n) where
  pub negated : {o : List ℕ} (i : ℕ) → i ≡ n → Over 32 (λ j. (p - get_or x j 0) % p) x o i → Negated p x o n
  negated {o} i e g = record {
    opposite = opposite p x o (record { modulus = h.modulus; prime = h.prime; hx = h.hx })
        (ext_get_or 0 o (tab 32 _) (g.size ∙ sym (length_tab 32 _)) (λ j u. let l : length o ≡ 32 = g.size in let w : j < 32 = omega arith in at j ∙ sym (at_tab 32 _ j w)));
    size = record {
      fits = (let f : n ≤ length x = h.sx.fits in let l : length x ≡ 32 = h.hx.size in let m : length o ≡ 32 = g.size in omega arith);
      above = λ j u. g.rest j (omega arith) ∙ h.sx.above j u;
      top = λ u q. h.sx.top u (back (n - 1) (sym (at (n - 1)) ∙ q));
    };
  }
    where
      at : (j : ℕ) → get_or o j 0 ≡ (p - get_or x j 0) % p
      at j = elim (dec_lt j i) [
        | yes l ↦ g.done j l
        | no l ↦ let z : get_or x j 0 ≡ 0 = h.sx.above j (omega arith) in g.rest j (omega arith) ∙ z ∙ sym (mod_self p) ∙ ap (λ a. a % p) (let q : p ≡ p - get_or x j 0 = omega arith in q)
      ]

      -- p − a is a multiple of p for a = 0 alone
      back : (j : ℕ) → (p - get_or x j 0) % p ≡ 0 → get_or x j 0 ≡ 0
      back j q = let l : get_or x j 0 < p = h.hx.each j in
          elim (dec_lt 0 (get_or x j 0)) [ yes u ↦ let e : (p - get_or x j 0) % p ≡ p - get_or x j 0 = mod-eq_of_lt (omega arith) in absurd (omega arith) | no u ↦ omega arith ]
