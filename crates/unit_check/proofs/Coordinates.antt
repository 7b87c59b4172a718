-- What `coordinate` answers, from the products that it calls. Each product is made in the front of an array of zeros.
--   back                              an array after its front was lent and given back
--   back_length, back_front           it is as long, and the front is what was given back
--   pair_asks, times_asks, sum_asks   what the products ask
--   pair_end, times_end, sum_room, sum_end, sum_some   there is room in the arrays
--   coordinate_gives                  the answer
use mathlib.Core.Path.{◌≡◌, sym, ap, ap₂, ◌∙◌, subst}
use mathlib.Core.Bool.{Bool}
use mathlib.Core.List.{List, ◌++◌}
use Prim.Native.Nat.{ℕ, ◌+◌, ◌-◌, ◌<◌, ◌≤◌}
use native.Mathlib.Omega.{arith}
use lib.ListN.{length, take, drop}
use Rattle.base_answers.specs.Decides.{Decides}
use Rattle.base_lists.specs.Pieces.{cut, between}
use Rattle.base_lists.proofs.Pieces.{between_length, between_cut}
use Rattle.base_lists.proofs.Puts.{Around, around_cut}
use Rattle.math_fp.specs.Fp.{Prime}
use Rattle.math_rows.specs.Made.{reading}
use Rattle.math_rows.specs.Row.{row}
use Rattle.base_answers.proofs.Tests.{carried}
use Rattle.poly_mix.specs.Mixing.{MixAsks, Mixed}
use Rattle.poly_mix.proofs.Mixing.{whole}
use Rattle.poly_products.specs.Products.{TimesAsks, Times}
use Rattle.unit_monic.proofs.InPlace.{front}
use Rattle.poly_tests.specs.Tests.{Constant}
use Rattle.unit_check.specs.Code.{CoordinateAsks, coordinate_of, CoordinateGives}
use Rattle.unit_check.proofs.Lists.{constant_is, is_constant}

front_length : (j : ℕ) (l : List ℕ) → j ≤ length l → length (between 0 j l) ≡ j
front_length j l u = between_length 0 j l (omega arith) u ∙ (let o : j - 0 ≡ j = omega arith in o)

abbrev pub back : ℕ → List ℕ → List ℕ → List ℕ
back j l q = take 0 l ++ (q ++ drop (j - 0) (drop 0 l))

module _ (j : ℕ) (l q : List ℕ) (u : j ≤ length l) (s : length q ≡ length (between 0 j l)) where
  around_front : Around 0 j l q (back j l q)
  around_front = front j l q (j - 0) (omega arith) u (s ∙ front_length j l u)

  back_length : length (back j l q) ≡ length l
  back_length = around_front.size

  back_front : between 0 j (back j l q) ≡ q
  back_front =
      between_cut 0 j (back j l q) (omega arith) (let n = back_length in omega arith) ∙ ap (λ k. cut 0 k (back j l q)) (let o : j - 0 ≡ j = omega arith in o)
      ∙ around_cut around_front (s ∙ front_length j l u)

module _ {p c : ℕ} {x y z w u m n v : List ℕ} {k : ℕ} (t : CoordinateAsks p c x y z w u m n v k) where
  most : c ≤ 4096
  most = t.most

  -- ---- the rooms
  pair_room : (l : List ℕ) → length l ≡ 8192 → c + c ≤ length l
  pair_room l e = let o = most in omega arith

  pub sum_room : (l : List ℕ) → length l ≡ 8224 → c + c + 32 ≤ length l
  sum_room l e = let o = most in omega arith

  end : (l q : List ℕ) → length l ≡ 8192 → length q ≡ length (between 0 (c + c) l) → c + c ≤ length (back (c + c) l q)
  end l q e s = let o = pair_room l e in let h : length (back (c + c) l q) ≡ length l = back_length (c + c) l q o s in omega arith

  pub pair_end : (l q : List ℕ) → length l ≡ 8192 → Mixed p x y z w (between 0 (c + c) l) q → c + c ≤ length (back (c + c) l q)
  pair_end l q e s = end l q e s.size

  pub times_end : (l q : List ℕ) → length l ≡ 8192 → Times p m n (between 0 (c + c) l) q → c + c ≤ length (back (c + c) l q)
  times_end l q e s = end l q e s.size

  pub sum_end : {a b : List ℕ} (l q : List ℕ) → length l ≡ 8224 → Mixed p u a v b (between 0 (c + c + 32) l) q → c + c + 32 ≤ length (back (c + c + 32) l q)
  sum_end l q e s = let o = sum_room l e in let h : length (back (c + c + 32) l q) ≡ length l = back_length (c + c + 32) l q o s.size in omega arith

  pub sum_some : {a b : List ℕ} (l q : List ℕ) → length l ≡ 8224 → Mixed p u a v b (between 0 (c + c + 32) l) q → 0 < length (between 0 (c + c + 32) (back (c + c + 32) l q))
  sum_some l q e s = let h : length (between 0 (c + c + 32) (back (c + c + 32) l q)) ≡ c + c + 32 = front_length (c + c + 32) (back (c + c + 32) l q) (sum_end l q e s) in omega arith

  -- ---- what is asked
  pub pair_asks : (l : List ℕ) → length l ≡ 8192 → MixAsks p x z (between 0 (c + c) l)
  pair_asks l e =
      let lx : length x ≡ c = t.x_size in
      let lz : length z ≡ c = t.z_size in
      let h : length (between 0 (c + c) l) ≡ c + c = front_length (c + c) l (pair_room l e) in
      let o = most in
      record { modulus = t.modulus; g_most = omega arith; h_most = omega arith; d_most = omega arith }

  pub times_asks : (l : List ℕ) → length l ≡ 8192 → TimesAsks p m n (between 0 (c + c) l)
  times_asks l e =
      let lm : length m ≡ c = t.size_m in
      let ln : length n ≡ c = t.size_n in
      let h : length (between 0 (c + c) l) ≡ c + c = front_length (c + c) l (pair_room l e) in
      let o = most in
      record { modulus = t.modulus; room = omega arith; d_most = omega arith }

  pub sum_asks : (l : List ℕ) → length l ≡ 8224 → MixAsks p u v (between 0 (c + c + 32) l)
  sum_asks l e =
      let lu : length u ≤ 32 = t.u_most in
      let lv : length v ≤ 32 = t.v_most in
      let h : length (between 0 (c + c + 32) l) ≡ c + c + 32 = front_length (c + c + 32) l (sum_room l e) in
      let o = most in
      record { modulus = t.modulus; g_most = omega arith; h_most = omega arith; d_most = omega arith }

  -- ---- the answer
  module _ (a₀ a b₀ b d₀ d : List ℕ) (ea : length a₀ ≡ c + c) (eb : length b₀ ≡ c + c) (ed : length d₀ ≡ c + c + 32)
      (A : Mixed p x y z w a₀ a) (B : Times p m n b₀ b) (D : Mixed p u a v b d₀ d) where
    -- there is room for each product, so nothing is cut off
    law : (pr : Prime p) → row (reading p pr) d ≡ coordinate_of (reading p pr) x y z w u m n v
    law pr =
        let ρ = reading p pr in
        let o = ρ.𝓥.L.ops in
        let lx : length x ≡ c = t.x_size in
        let ly : length y ≡ c = t.y_size in
        let lz : length z ≡ c = t.z_size in
        let lw : length w ≡ c = t.size_w in
        let lu : length u ≤ 32 = t.u_most in
        let lv : length v ≤ 32 = t.v_most in
        let la : length a ≡ c + c = A.size ∙ ea in
        let lb : length b ≡ c + c = B.size ∙ eb in
        whole (omega arith) (omega arith) D pr
        ∙ ap₂ (λ s r. o.add (o.mul (row ρ u) s) (o.mul (row ρ v) r)) (whole (omega arith) (omega arith) A pr) (B.law pr)

    gives : (r : Bool) → Decides r (Constant k d) → CoordinateGives p x y z w u m n v k r
    gives r h pr =
        let ρ = reading p pr in
        carried (λ s. sym (law pr) ∙ constant_is ρ k d s) (λ e. is_constant ρ k d D.each t.remainder (law pr ∙ e)) h

  pub coordinate_gives : (A B D a b d : List ℕ) (r : Bool) → length A ≡ 8192 → length B ≡ 8192 → length D ≡ 8224
      → Mixed p x y z w (between 0 (c + c) A) a → Times p m n (between 0 (c + c) B) b
      → Mixed p u (between 0 (c + c) (back (c + c) A a)) v (between 0 (c + c) (back (c + c) B b)) (between 0 (c + c + 32) D) d
      → Decides r (Constant k (between 0 (c + c + 32) (back (c + c + 32) D d))) → CoordinateGives p x y z w u m n v k r
  coordinate_gives A B D a b d r ea eb ed ma mb md h =
      gives (between 0 (c + c) A) a (between 0 (c + c) B) b (between 0 (c + c + 32) D) d (front_length (c + c) A (pair_room A ea))
      (front_length (c + c) B (pair_room B eb)) (front_length (c + c + 32) D (sum_room D ed)) ma mb
      (subst (λ s. Mixed p u a v s (between 0 (c + c + 32) D) d) (back_front (c + c) B b (pair_room B eb) mb.size)
      (subst (λ s. Mixed p u s v (between 0 (c + c) (back (c + c) B b)) (between 0 (c + c + 32) D) d) (back_front (c + c) A a (pair_room A ea) ma.size) md))
      r (subst (λ s. Decides r (Constant k s)) (back_front (c + c + 32) D d (sum_room D ed) md.size) h)
