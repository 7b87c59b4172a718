-- What `pair`, `cofactor` and `norm` hand out, from the products that they call.
use mathlib.Core.Path.{◌≡◌, refl, sym, ap, ap₂, ◌∙◌, subst}
use mathlib.Core.List.{List, [], ◌∷◌, ◌++◌}
use Prim.Native.Nat.{ℕ, ◌+◌, ◌-◌, ◌<◌, ◌≤◌}
use native.Mathlib.Omega.{arith}
use lib.ListN.{length, get_or, take, drop}
use lib.Seq.{ext_get_or}
use Rattle.math_ring.proofs.Solve.{var, ◌:+◌, ◌:*◌, solve}
use Rattle.math_fp.specs.Fp.{Prime}
use Rattle.math_rows.specs.Reading.{Reading}
use Rattle.math_rows.specs.Made.{reading}
use Rattle.math_rows.specs.Row.{row, tpow}
use Rattle.math_rows.proofs.Rows.{row_poly}
use Rattle.poly_long.specs.Long.{Low}
use Rattle.poly_mix.specs.Mixing.{MixAsks, Mixed}
use Rattle.poly_long.proofs.Low.{low_mix, alone}
use Rattle.base_lists.specs.Pieces.{cut, between}
use Rattle.base_lists.proofs.Pieces.{between_length, between_cut, cut_same}
use Rattle.base_lists.proofs.Puts.{Around, put_back, around_cut}
use Rattle.unit_inverse.specs.Inverse.{PairAsks, Pair, CofactorAsks, Cofactor, NormAsks, Norm}

low_eq : {p : ℕ} (ρ : Reading p) {n m : ℕ} {z y : ρ.𝓥.L.El} {l k : List ℕ} → Low ρ n z l → n ≡ m → z ≡ y → l ≡ k → Low ρ m y k
low_eq ρ {n} {m} {z} {y} {l} {k} h e f g = subst (λ i. Low ρ i y k) e (subst (λ i. Low ρ n i k) f (subst (λ i. Low ρ n z i) g h))

-- a factor by its low coefficients alone
low_left : {p : ℕ} (ρ : Reading p) {n : ℕ} {x : ρ.𝓥.L.El} {a d : List ℕ} (g y : ρ.𝓥.L.El) → ρ.𝓥.IsPoly g → Low ρ n x a
    → Low ρ n (ρ.𝓥.L.ops.add (ρ.𝓥.L.ops.mul g (row ρ a)) y) d → Low ρ n (ρ.𝓥.L.ops.add (ρ.𝓥.L.ops.mul g x) y) d
low_left ρ {n} {x} {a} {d} g y hg u w = let L = ρ.𝓥.L in let o = L.ops in record {
  size = w.size;
  rest = o.add w.rest (o.mul g u.rest);
  is_poly = ρ.𝓥.closed.add _ _ w.is_poly (ρ.𝓥.closed.mul _ _ hg u.is_poly);
  law = ap (λ s. o.add (o.mul g s) y) u.law
      ∙ solve L (var 0 :* (var 1 :+ var 3 :* var 2) :+ var 4) (var 0 :* var 1 :+ var 4 :+ var 3 :* (var 0 :* var 2)) tt (g ∷ row ρ a ∷ u.rest ∷ tpow ρ n ∷ y ∷ [])
      ∙ ap (λ s. o.add s (o.mul (tpow ρ n) (o.mul g u.rest))) w.law
      ∙ solve L (var 0 :+ var 1 :* var 2 :+ var 1 :* var 3) (var 0 :+ var 1 :* (var 2 :+ var 3)) tt (row ρ d ∷ tpow ρ n ∷ w.rest ∷ o.mul g u.rest ∷ []);
}

-- a row of c numbers
row_at : (at c : ℕ) (l : List ℕ) → at + c ≤ length l → between at (at + c) l ≡ cut at c l
row_at at c l u = between_cut at (at + c) l (omega arith) u ∙ ap (λ k. cut at k l) (let o : at + c - at ≡ c = omega arith in o)

row_long : (at c : ℕ) (l : List ℕ) → at + c ≤ length l → length (between at (at + c) l) ≡ c
row_long at c l u = between_length at (at + c) l (omega arith) u ∙ (let o : at + c - at ≡ c = omega arith in o)

-- a part given back
back : (at k : ℕ) (l q : List ℕ) (m : ℕ) → m ≡ k → at + k ≤ length l → length q ≡ k → Around at k l q (take at l ++ (q ++ drop m (drop at l)))
back at k l q m e u s = subst (λ j. Around at k l q (take at l ++ (q ++ drop j (drop at l)))) (sym e) (put_back at k l q u s)

module _ (p c k x y v w : ℕ) (rows s : List ℕ) (h : PairAsks p c k x y v w rows s) where
  pub pair_asks : (at f t : ℕ) (r : List ℕ) → at + c ≤ length rows → f ≤ t → t - f ≤ c → t ≤ length r → MixAsks p (between at (at + c) rows) (0 ∷ []) (between f t r)
  pair_asks at f t r u a b d = record {
    modulus = h.modulus;
    g_most = let o : length (between at (at + c) rows) ≡ c = row_long at c rows u in let m : c ≤ 4096 = h.most in omega arith;
    h_most = omega arith;
    d_most = let o : length (between f t r) ≡ t - f = between_length f t r a d in let m : c ≤ 4096 = h.most in omega arith;
  }

  module _ (q₁ : List ℕ) (m₁ : ℕ) (e₁ : m₁ ≡ k) (M₁ : Mixed p (between x (x + c) rows) (between y (y + c) rows) (0 ∷ []) (0 ∷ []) (between 0 k s) q₁) where
    abbrev s₁ : List ℕ
    s₁ = take 0 s ++ (q₁ ++ drop m₁ (drop 0 s))

    long₁ : length q₁ ≡ k
    long₁ = M₁.size ∙ between_length 0 k s (omega arith) (let o : k + k ≤ length s = h.s_room in omega arith) ∙ (let o : k - 0 ≡ k = omega arith in o)

    put₁ : Around 0 k s q₁ s₁
    put₁ = back 0 k s q₁ m₁ e₁ (let o : k + k ≤ length s = h.s_room in omega arith) long₁

    pub pair_size : length s₁ ≡ length s
    pair_size = put₁.size

    module _ (q₂ : List ℕ) (m₂ : ℕ) (e₂ : m₂ ≡ k) (M₂ : Mixed p (between v (v + c) rows) (between w (w + c) rows) (0 ∷ []) (0 ∷ []) (between k (k + k) s₁) q₂) where
      abbrev s₂ : List ℕ
      s₂ = take k s₁ ++ (q₂ ++ drop m₂ (drop k s₁))

      room : k + k ≤ length s₁
      room = let o : k + k ≤ length s = h.s_room in let u : length s₁ ≡ length s = pair_size in omega arith

      long₂ : length q₂ ≡ k
      long₂ = M₂.size ∙ row_long k k s₁ room

      put₂ : Around k k s₁ q₂ s₂
      put₂ = back k k s₁ q₂ m₂ e₂ room long₂

      product : (pr : Prime p) (a b : ℕ) → a + c ≤ length rows → b + c ≤ length rows → let ρ = reading p pr in let o = ρ.𝓥.L.ops in
          o.add (o.mul (row ρ (between a (a + c) rows)) (row ρ (between b (b + c) rows))) (o.mul (row ρ (0 ∷ [])) (row ρ (0 ∷ []))) ≡ o.mul (row ρ (cut a c rows)) (row ρ (cut b c rows))
      product pr a b u t = let ρ = reading p pr in alone ρ (row ρ (between a (a + c) rows)) (row ρ (between b (b + c) rows)) ∙ ap₂ ρ.𝓥.L.ops.mul (ap (row ρ) (row_at a c rows u)) (ap (row ρ) (row_at b c rows t))

      pub pair_made : Pair p c k x y v w rows s s₂
      pair_made = record {
        size = put₂.size ∙ pair_size;
        first = λ pr. low_eq (reading p pr) (M₁.law pr) (sym M₁.size ∙ long₁) (product pr x y h.x_room h.y_room) (sym (cut_same 0 k s₂ s₁ (λ i u. put₂.before (0 + i) (omega arith)) ∙ around_cut put₁ long₁));
        second = λ pr. low_eq (reading p pr) (M₂.law pr) (sym M₂.size ∙ long₂) (product pr v w h.v_room h.w_room) (sym (around_cut put₂ long₂));
      }

module _ (p c k x y v w : ℕ) (g f : List ℕ) (at : ℕ) (rows s s₁ : List ℕ) (h : CofactorAsks p c k x y v w g f at rows s) (P : Pair p c k x y v w rows s s₁) where
  both : k + k ≤ length s₁
  both = let o : k + k ≤ length s = h.pair.s_room in let u : length s₁ ≡ length s = P.size in omega arith

  pub cofactor_asks : MixAsks p g f (between at (at + k) rows)
  cofactor_asks = record {
    modulus = h.pair.modulus;
    g_most = let o : length g ≤ 4096 = h.g_most in omega arith;
    h_most = let o : length f ≤ 4096 = h.f_most in omega arith;
    d_most = let o : length (between at (at + k) rows) ≡ k = row_long at k rows h.room in let m : c ≤ 4096 = h.pair.most in let u : k ≤ c = h.pair.upto in omega arith;
  }

  pub cofactor_made : (q : List ℕ) (m : ℕ) → m ≡ k → Mixed p g (between 0 k s₁) f (between k (k + k) s₁) (between at (at + k) rows) q → Cofactor p c k x y v w g f at rows s (take at rows ++ (q ++ drop m (drop at rows))) s₁
  cofactor_made q m em M =
      let long : length q ≡ k = M.size ∙ row_long at k rows h.room in
      let put : Around at k rows q (take at rows ++ (q ++ drop m (drop at rows))) = back at k rows q m em h.room long in
      let first : between 0 k s₁ ≡ cut 0 k s₁ = between_cut 0 k s₁ (omega arith) (let o = both in omega arith) ∙ ap (λ j. cut 0 j s₁) (let o : k - 0 ≡ k = omega arith in o) in
      record {
        size = put.size;
        s_size = P.size;
        before = put.before;
        after = put.after;
        each = λ i u. subst (λ z. z < p) (sym (put.inside i u)) (M.each i);
        law = λ pr. let ρ = reading p pr in let o = ρ.𝓥.L.ops in
            low_mix ρ (row ρ g) (row ρ f) (row_poly ρ g) (row_poly ρ f) (P.first pr) (P.second pr)
            (low_eq ρ (M.law pr) (sym M.size ∙ long) (ap₂ (λ a b. o.add (o.mul (row ρ g) (row ρ a)) (o.mul (row ρ f) (row ρ b))) first (row_at k k s₁ both)) (sym (around_cut put long)));
      }

-- ---- the norm
single : (l : List ℕ) → length l ≡ 1 → l ≡ get_or l 0 0 ∷ []
single l e = ext_get_or 0 l (get_or l 0 0 ∷ []) e (λ i u. let z : i ≡ 0 = omega arith in ap (λ j. get_or l j 0) z ∙ sym (ap (λ j. get_or (get_or l 0 0 ∷ []) j 0) z))

module _ (p c : ℕ) (gh rows : List ℕ) (h : NormAsks p c gh rows) where
  pub norm_long : (at : ℕ) → at + c ≤ c + c + c + c + c + c → length (between at (at + c) rows) ≤ 65536
  norm_long at u = let r : length rows ≡ c + c + c + c + c + c = h.room in let o : length (between at (at + c) rows) ≡ c = row_long at c rows (omega arith) in let m : c ≤ 4096 = h.most in omega arith

  pub norm_first : length (between 0 c rows) ≤ 65536
  norm_first = let r : length rows ≡ c + c + c + c + c + c = h.room in let o : length (between 0 c rows) ≡ c - 0 = between_length 0 c rows (omega arith) (omega arith) in let m : c ≤ 4096 = h.most in omega arith

  pub norm_made : (a b : List ℕ) (v : ℕ)
      → Mixed p (between c (c + c) rows) (between (c + c + c + c + c) (c + c + c + c + c + c) rows) (between (c + c) (c + c + c) rows) (between (c + c + c + c) (c + c + c + c + c) rows) (0 ∷ []) a
      → Mixed p gh a (between 0 c rows) (between (c + c + c) (c + c + c + c) rows) (0 ∷ []) b
      → v ≡ get_or b 0 0 → Norm p c gh rows v
  norm_made a b v A B e =
      let r : length rows ≡ c + c + c + c + c + c = h.room in
      let zero_row : between 0 c rows ≡ cut 0 c rows = between_cut 0 c rows (omega arith) (omega arith) ∙ ap (λ k. cut 0 k rows) (let o : c - 0 ≡ c = omega arith in o) in
      record {
        below = subst (λ z. z < p) (sym e) (B.each 0);
        law = λ pr. let ρ = reading p pr in let o = ρ.𝓥.L.ops in
            low_left ρ (row ρ gh) (o.mul (row ρ (cut 0 c rows)) (row ρ (cut (c + c + c) c rows))) (row_poly ρ gh)
            (low_eq ρ (A.law pr) refl (ap₂ o.add
            (ap₂ o.mul (ap (row ρ) (row_at c c rows (omega arith))) (ap (row ρ) (row_at (c + c + c + c + c) c rows (omega arith))))
            (ap₂ o.mul (ap (row ρ) (row_at (c + c) c rows (omega arith))) (ap (row ρ) (row_at (c + c + c + c) c rows (omega arith))))) refl)
            (low_eq ρ (B.law pr) refl (ap (λ z. o.add (o.mul (row ρ gh) (row ρ a)) z) (ap₂ o.mul (ap (row ρ) zero_row) (ap (row ρ) (row_at (c + c + c) c rows (omega arith)))))
            (single b B.size ∙ ap (λ z. z ∷ []) (sym e)));
      }
