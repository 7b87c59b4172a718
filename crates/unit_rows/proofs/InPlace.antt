-- What `multiply_by_m` leaves in the slice: the first three rows are new, the others as they were.
use mathlib.Core.Path.{◌≡◌, sym, ap, ◌∙◌, subst}
use mathlib.Core.List.{List, ◌++◌}
use Prim.Native.Nat.{ℕ, ◌+◌, ◌-◌, ◌<◌, ◌≤◌}
use native.Mathlib.Omega.{arith}
use lib.ListN.{length, get_or, take, drop, replicate}
use Rattle.math_rows.specs.Made.{reading}
use Rattle.math_rows.specs.Row.{row}
use Rattle.base_lists.specs.Pieces.{between}
use Rattle.base_lists.proofs.Pieces.{between_length, cut_same}
use Rattle.base_lists.proofs.Puts.{Around}
use Rattle.unit_monic.proofs.InPlace.{mid_at, front}
use Rattle.unit_rows.specs.Six.{Times, MultiplyByMAsks, Turn}

module _ (p c n : ℕ) (g h gh b rows s s₁ : List ℕ) (t : MultiplyByMAsks p c n g h gh b rows s) (T : Times p c n g h gh b rows s s₁) where
  pub turn_asks : length (between 0 (c + c + c) s₁) ≡ length (between 0 (c + c + c) rows)
  turn_asks =
      between_length 0 (c + c + c) s₁ (omega arith) (let o : length s₁ ≡ length s = T.size in let u : c + c + c ≤ length s = t.times.s_room in omega arith)
      ∙ sym (between_length 0 (c + c + c) rows (omega arith) t.times.e_room)

  pub turn_made : (q s₂ : List ℕ) (m : ℕ) → m ≡ c + c + c → q ≡ between 0 (c + c + c) s₁ → s₂ ≡ replicate (length s₁) 0 → Turn p c n g h gh b rows s (take 0 rows ++ (q ++ drop m (drop 0 rows))) s₂
  turn_made q s₂ m em eq es =
      let r = take 0 rows ++ (q ++ drop m (drop 0 rows)) in
      let long : length q ≡ c + c + c = ap length eq ∙ turn_asks ∙ between_length 0 (c + c + c) rows (omega arith) t.times.e_room ∙ (let o : c + c + c - 0 ≡ c + c + c = omega arith in o) in
      let put : Around 0 (c + c + c) rows q r = front (c + c + c) rows q m em t.times.e_room long in
      let at : (i : ℕ) → i < c + c + c → get_or r i 0 ≡ get_or s₁ i 0 = (λ i u. ap (λ j. get_or r j 0) (let o : i ≡ 0 + i = omega arith in o) ∙ put.inside i u ∙ ap (λ l. get_or l i 0) eq ∙ mid_at (c + c + c) s₁ i u) in
      record {
        size = put.size;
        each = λ i u. subst (λ v. v < p) (sym (at i u)) (T.each i);
        rest = λ i u. put.after i (omega arith);
        law = λ pr x y z hx hy hz lx ly lz ex ey ez. let ρ = reading p pr in
            let (a, d, e) = T.law pr x y z hx hy hz lx ly lz ex ey ez in (
              ap (row ρ) (cut_same 0 c r s₁ (λ i u. at (0 + i) (omega arith))) ∙ a,
              ap (row ρ) (cut_same c c r s₁ (λ i u. at (c + i) (omega arith))) ∙ d,
              ap (row ρ) (cut_same (c + c) c r s₁ (λ i u. at (c + c + i) (omega arith))) ∙ e,
            );
        blank = es ∙ ap (λ k. replicate k 0) T.size;
      }
