-- cof(E)/N(E): the three rows of the cofactor, the norm as a number, and the rows scaled by its inverse.
use mathlib.Core.Path.{◌≡◌, sym, ap, ap₂, ◌∙◌, subst}
use mathlib.Core.List.{List, [], ◌∷◌, ◌++◌}
use Prim.Native.Nat.{ℕ, ◌+◌, ◌*◌, ◌-◌, ◌%◌, ◌<◌, ◌≤◌}
use native.Mathlib.Omega.{arith}
use native.Mathlib.Decide.{dec_lt, ℕ_discrete}
use lib.ListN.{length, get_or, take, drop, replicate}
use lib.Seq.{ext_get_or, get_or-take, get_or-drop}
use Rattle.math_ring.proofs.Solve.{var, one, zer, minus, ◌:+◌, ◌:*◌, hyp, solve, solve_by}
use Rattle.math_triple.specs.Tri.{Tri, norm_t, cof_t}
use Rattle.math_fp.specs.Fp.{Prime}
use Rattle.math_valued.proofs.Degree.{lt_eq}
use Rattle.math_rows.specs.Reading.{Reading}
use Rattle.math_rows.specs.Made.{reading}
use Rattle.math_rows.specs.Row.{tab, row, psum, tpow}
use Rattle.math_rows.proofs.Tab.{length_tab, at_tab}
use Rattle.math_rows.proofs.Rows.{cast_sub, const_neg}
use Rattle.math_rows.proofs.Unique.{const_inj}
use Rattle.num_power.specs.Powers.{Inverse, Nonzero}
use Rattle.poly_long.specs.Long.{Scaled}
use Rattle.poly_long.proofs.Low.{low_unique, scale_law}
use Rattle.base_lists.specs.Pieces.{cut, between}
use Rattle.base_lists.proofs.Pieces.{between_length, cut_same}
use Rattle.base_lists.proofs.Puts.{Around, put_back}
use Rattle.unit_rows.proofs.Multiply.{row_grow}
use Rattle.unit_inverse.specs.Inverse.{CofactorAsks, Cofactor, NormAsks, Norm, element, InvertAsks, Inverted}

-- one number
pub row_one : {p : ℕ} (ρ : Reading p) (v : ℕ) → row ρ (v ∷ []) ≡ ρ.𝓥.const (ρ.cast v)
unfolding row psum tpow
row_one ρ v = let L = ρ.𝓥.L in solve L (zer :+ var 0 :* one) (var 0) tt (ρ.𝓥.const (ρ.cast v) ∷ [])

-- a row of which all numbers are scaled
pub row_scaled : {p : ℕ} (ρ : Reading p) (s at c : ℕ) (l z : List ℕ) → ((i : ℕ) → i < c → get_or z (at + i) 0 ≡ (get_or l (at + i) 0 * s) % p) → row ρ (cut at c z) ≡ ρ.𝓥.L.ops.mul (ρ.𝓥.const (ρ.cast s)) (row ρ (cut at c l))
row_scaled {p} ρ s at c l z h =
    ap (row ρ) (ext_get_or 0 (cut at c z) (tab (length (cut at c l)) (λ i. (get_or (cut at c l) i 0 * s) % p)) (length_tab c (λ i. get_or z (at + i) 0) ∙ sym (length_tab (length (cut at c l)) (λ i. (get_or (cut at c l) i 0 * s) % p) ∙ length_tab c (λ i. get_or l (at + i) 0)))
    (λ i u. let e : length (cut at c z) ≡ c = length_tab c (λ i. get_or z (at + i) 0) in let f : length (cut at c l) ≡ c = length_tab c (λ i. get_or l (at + i) 0) in let v : i < c = omega arith in
    at_tab c (λ i. get_or z (at + i) 0) i v ∙ h i v ∙ ap (λ x. (x * s) % p) (sym (at_tab c (λ i. get_or l (at + i) 0) i v))
    ∙ sym (at_tab (length (cut at c l)) (λ i. (get_or (cut at c l) i 0 * s) % p) i (omega arith))))
    ∙ scale_law ρ s (cut at c l)

module _ (p c k : ℕ) (g h gh ngh rows s : List ℕ) (t : InvertAsks p c k g h gh ngh rows s) where
  pos : 0 < p
  pos = let o : 1 < p = t.modulus.prime.big in omega arith

  pub invert_asks : (x y v w at : ℕ) (u f r z : List ℕ) → x + c ≤ c + c + c → y + c ≤ c + c + c → v + c ≤ c + c + c → w + c ≤ c + c + c → at + c ≤ c + c + c + c + c + c → length u ≤ 4096 → length f ≤ 4096 → length r ≡ length rows → length z ≡ length s
      → CofactorAsks p c k x y v w u f at r z
  invert_asks x y v w at u f r z lx ly lv lw la lu lf er ez =
      let o : length rows ≡ c + c + c + c + c + c = t.room in
      let q : length s ≡ length rows = t.s_room in
      let n : k ≤ c = t.upto in
      let m : c ≤ 4096 = t.most in
      record {
        pair = record {
          modulus = t.modulus;
          most = m;
          upto = n;
          x_room = omega arith;
          y_room = omega arith;
          v_room = omega arith;
          w_room = omega arith;
          s_room = omega arith;
          short = omega arith;
        };
        g_most = lu;
        f_most = lf;
        room = omega arith;
      }

  -- the three rows
  module _ (r₁ r₂ r₃ s₁ s₂ s₃ : List ℕ)
      (A : Cofactor p c k c (c + c) 0 0 ngh (1 ∷ []) (c + c + c) rows s r₁ s₁)
      (B : Cofactor p c k (c + c) (c + c) 0 c g ((p - 1) ∷ []) (c + c + c + c) r₁ s₁ r₂ s₂)
      (D : Cofactor p c k c c 0 (c + c) h ((p - 1) ∷ []) (c + c + c + c + c) r₂ s₂ r₃ s₃) where
    upto : k ≤ c
    upto = t.upto

    kept₁ : (i : ℕ) → i < c + c + c → get_or r₁ i 0 ≡ get_or rows i 0
    kept₁ i u = A.before i u

    kept₂ : (i : ℕ) → i < c + c + c → get_or r₂ i 0 ≡ get_or rows i 0
    kept₂ i u = B.before i (omega arith) ∙ kept₁ i u

    pub kept₃ : (i : ℕ) → i < c + c + c → get_or r₃ i 0 ≡ get_or rows i 0
    kept₃ i u = D.before i (omega arith) ∙ kept₂ i u

    module _ (pr : Prime p) where
      abbrev ρ : Reading p
      ρ = reading p pr

      open ρ.𝓥.L.ops use {add as ◌⊕◌, mul as ◌⊗◌, neg as ⊖◌, 𝟏}

      infixl 60 ◌⊕◌
      infixl 70 ◌⊗◌
      infix 80 ⊖◌
      abbrev E : Tri ρ.𝓥.L.El
      E = element ρ 0 c rows

      abbrev C : Tri ρ.𝓥.L.El
      C = cof_t ρ.𝓥.L.ops (row ρ g) (row ρ h) E

      same : (at : ℕ) (r : List ℕ) → at + c ≤ c + c + c → ((i : ℕ) → i < c + c + c → get_or r i 0 ≡ get_or rows i 0) → row ρ (cut at c r) ≡ row ρ (cut at c rows)
      same at r l e = ap (row ρ) (cut_same at c r rows (λ i u. e (at + i) (omega arith)))

      plus : row ρ (1 ∷ []) ≡ 𝟏
      plus = row_one ρ 1 ∙ ap ρ.𝓥.const ρ.cast_one ∙ ρ.const_one

      less : row ρ ((p - 1) ∷ []) ≡ ⊖ 𝟏
      less = row_one ρ (p - 1) ∙ ap ρ.𝓥.const (cast_sub ρ 1 (let o = pos in omega arith) ∙ ap ρ.𝓥.K.ops.neg ρ.cast_one) ∙ const_neg ρ ρ.𝓥.K.ops.𝟏 ∙ ap (λ x. ⊖ x) ρ.const_one

      zero_at : cut (0 + c) c rows ≡ cut c c rows
      zero_at = ap (λ n. cut n c rows) (let o : 0 + c ≡ c = omega arith in o)

      two_at : cut (0 + c + c) c rows ≡ cut (c + c) c rows
      two_at = ap (λ n. cut n c rows) (let o : 0 + c + c ≡ c + c = omega arith in o)

      Eb : row ρ (cut c c rows) ≡ E.b
      Eb = ap (row ρ) (sym zero_at)

      Ec : row ρ (cut (c + c) c rows) ≡ E.c
      Ec = ap (row ρ) (sym two_at)

      C_a : row ρ ngh ⊗ (row ρ (cut c c rows) ⊗ row ρ (cut (c + c) c rows)) ⊕ row ρ (1 ∷ []) ⊗ (row ρ (cut 0 c rows) ⊗ row ρ (cut 0 c rows)) ≡ C.a
      C_a =
          ap₂ ◌⊕◌ (ap₂ ◌⊗◌ (t.ngh_is pr ∙ ap (λ x. ⊖ x) (t.gh_is pr)) (ap₂ ◌⊗◌ Eb Ec)) (ap (λ x. x ⊗ (E.a ⊗ E.a)) plus)
          ∙ solve ρ.𝓥.L (minus (var 0 :* var 1) :* (var 3 :* var 4) :+ one :* (var 2 :* var 2)) (var 2 :* var 2 :+ minus (var 3 :* var 4 :* (var 0 :* var 1))) tt (row ρ g ∷ row ρ h ∷ E.a ∷ E.b ∷ E.c ∷ [])

      C_b : row ρ g ⊗ (row ρ (cut (c + c) c r₁) ⊗ row ρ (cut (c + c) c r₁)) ⊕ row ρ ((p - 1) ∷ []) ⊗ (row ρ (cut 0 c r₁) ⊗ row ρ (cut c c r₁)) ≡ C.b
      C_b =
          ap₂ ◌⊕◌ (ap (λ x. row ρ g ⊗ (x ⊗ x)) (same (c + c) r₁ (omega arith) kept₁ ∙ Ec)) (ap₂ ◌⊗◌ less (ap₂ ◌⊗◌ (same 0 r₁ (omega arith) kept₁) (same c r₁ (omega arith) kept₁ ∙ Eb)))
          ∙ solve ρ.𝓥.L (var 0 :* (var 3 :* var 3) :+ minus one :* (var 1 :* var 2)) (var 3 :* var 3 :* var 0 :+ minus (var 1 :* var 2)) tt (row ρ g ∷ E.a ∷ E.b ∷ E.c ∷ [])

      C_c : row ρ h ⊗ (row ρ (cut c c r₂) ⊗ row ρ (cut c c r₂)) ⊕ row ρ ((p - 1) ∷ []) ⊗ (row ρ (cut 0 c r₂) ⊗ row ρ (cut (c + c) c r₂)) ≡ C.c
      C_c =
          ap₂ ◌⊕◌ (ap (λ x. row ρ h ⊗ (x ⊗ x)) (same c r₂ (omega arith) kept₂ ∙ Eb)) (ap₂ ◌⊗◌ less (ap₂ ◌⊗◌ (same 0 r₂ (omega arith) kept₂) (same (c + c) r₂ (omega arith) kept₂ ∙ Ec)))
          ∙ solve ρ.𝓥.L (var 0 :* (var 2 :* var 2) :+ minus one :* (var 1 :* var 3)) (var 2 :* var 2 :* var 0 :+ minus (var 1 :* var 3)) tt (row ρ h ∷ E.a ∷ E.b ∷ E.c ∷ [])

      -- in the last state, zeros above k
      F_a : row ρ (cut (c + c + c) c r₃) ≡ C.a
      F_a =
          row_grow ρ (c + c + c) k c r₃ upto (λ i u v. let o = upto in D.before (c + c + c + i) (omega arith) ∙ B.before (c + c + c + i) (omega arith) ∙ A.after (c + c + c + i) (omega arith) ∙ t.blank (c + c + c + i) (omega arith))
          ∙ ap (row ρ) (cut_same (c + c + c) k r₃ r₁ (λ i u. let o = upto in D.before (c + c + c + i) (omega arith) ∙ B.before (c + c + c + i) (omega arith)))
          ∙ low_unique ρ (A.law pr) (lt_eq ρ.𝓥 (t.a_fits pr) (sym C_a)) ∙ C_a

      F_b : row ρ (cut (c + c + c + c) c r₃) ≡ C.b
      F_b =
          row_grow ρ (c + c + c + c) k c r₃ upto (λ i u v. let o = upto in D.before (c + c + c + c + i) (omega arith) ∙ B.after (c + c + c + c + i) (omega arith) ∙ A.after (c + c + c + c + i) (omega arith) ∙ t.blank (c + c + c + c + i) (omega arith))
          ∙ ap (row ρ) (cut_same (c + c + c + c) k r₃ r₂ (λ i u. let o = upto in D.before (c + c + c + c + i) (omega arith)))
          ∙ low_unique ρ (B.law pr) (lt_eq ρ.𝓥 (t.b_fits pr) (sym C_b)) ∙ C_b

      F_c : row ρ (cut (c + c + c + c + c) c r₃) ≡ C.c
      F_c =
          row_grow ρ (c + c + c + c + c) k c r₃ upto (λ i u v. let o = upto in D.after (c + c + c + c + c + i) (omega arith) ∙ B.after (c + c + c + c + c + i) (omega arith) ∙ A.after (c + c + c + c + c + i) (omega arith) ∙ t.blank (c + c + c + c + c + i) (omega arith))
          ∙ low_unique ρ (D.law pr) (lt_eq ρ.𝓥 (t.c_fits pr) (sym C_c)) ∙ C_c

      -- the norm's number
      norm_is : (v : ℕ) → Norm p c gh r₃ v → ρ.𝓥.const (ρ.cast v) ≡ norm_t ρ.𝓥.L.ops (row ρ g) (row ρ h) E
      norm_is v N =
          let (κ, κ≢, e) = t.constant pr in
          let whole : row ρ gh ⊗ (row ρ (cut c c r₃) ⊗ row ρ (cut (c + c + c + c + c) c r₃) ⊕ row ρ (cut (c + c) c r₃) ⊗ row ρ (cut (c + c + c + c) c r₃)) ⊕ row ρ (cut 0 c r₃) ⊗ row ρ (cut (c + c + c) c r₃) ≡ norm_t ρ.𝓥.L.ops (row ρ g) (row ρ h) E =
          ap₂ ◌⊕◌ (ap₂ ◌⊗◌ (t.gh_is pr) (ap₂ ◌⊕◌ (ap₂ ◌⊗◌ (same c r₃ (omega arith) kept₃ ∙ Eb) F_c) (ap₂ ◌⊗◌ (same (c + c) r₃ (omega arith) kept₃ ∙ Ec) F_b))) (ap₂ ◌⊗◌ (same 0 r₃ (omega arith) kept₃) F_a)
          ∙ solve ρ.𝓥.L
          (var 0 :* var 1 :* (var 3 :* (var 3 :* var 3 :* var 1 :+ minus (var 2 :* var 4)) :+ var 4 :* (var 4 :* var 4 :* var 0 :+ minus (var 2 :* var 3))) :+ var 2 :* (var 2 :* var 2 :+ minus (var 3 :* var 4 :* (var 0 :* var 1))))
          (var 2 :* var 2 :* var 2 :+ var 3 :* var 3 :* var 3 :* (var 0 :* (var 1 :* var 1)) :+ var 4 :* var 4 :* var 4 :* (var 0 :* var 0 :* var 1) :+ minus (var 2 :* var 3 :* var 4 :* (var 0 :* var 1) :+ var 2 :* var 3 :* var 4 :* (var 0 :* var 1) :+ var 2 :* var 3 :* var 4 :* (var 0 :* var 1)))
          tt (row ρ g ∷ row ρ h ∷ E.a ∷ E.b ∷ E.c ∷ []) in
          sym (row_one ρ v) ∙ low_unique ρ (N.law pr) (lt_eq ρ.𝓥 (ρ.𝓥.lead_up 1 0 (ρ.𝓥.const_lead κ) (omega arith)) (sym (whole ∙ e))) ∙ whole

    pub norm_asks : NormAsks p c gh r₃
    norm_asks = record { modulus = t.modulus; most = t.most; gh_most = t.gh_most; room = D.size ∙ B.size ∙ A.size ∙ t.room }

    pub inverse_asks : (v : ℕ) → Norm p c gh r₃ v → Nonzero p v
    inverse_asks v N = record {
      modulus = record { big = t.modulus.prime.big; small = let o : p < 65536 = t.modulus.small in omega arith };
      prime = t.modulus.prime;
      pos = elim (ℕ_discrete v 0) [
        | yes z ↦ (let pr = t.modulus.prime in let ρ = reading p pr in let (κ, κ≢, e) = t.constant pr in
            absurd (κ≢ (const_inj ρ κ ρ.𝓥.K.ops.𝟎 (sym e ∙ sym (norm_is pr v N) ∙ ap (λ i. ρ.𝓥.const (ρ.cast i)) z ∙ ap ρ.𝓥.const ρ.cast_zero))))
        | no z ↦ omega arith
      ];
      below = N.below;
    }

    below₃ : (i : ℕ) → get_or r₃ i 0 < p
    below₃ i = step D (step B (step A t.each)) i
      where
        step : {x y v w : ℕ} {u f : List ℕ} {at : ℕ} {r z r' z' : List ℕ} → Cofactor p c k x y v w u f at r z r' z' → ((j : ℕ) → get_or r j 0 < p) → (j : ℕ) → get_or r' j 0 < p
        step {at = at} {r' = r'} M e j = elim (dec_lt j at) [
          | yes l ↦ subst (λ q. q < p) (sym (M.before j l)) (e j)
          | no l ↦ elim (dec_lt j (at + k)) [
            | yes m ↦ subst (λ q. get_or r' q 0 < p) (let o : at + (j - at) ≡ j = omega arith in o) (M.each (j - at) (omega arith))
            | no m ↦ subst (λ q. q < p) (sym (M.after j (omega arith))) (e j)
          ]
        ]

    pub inverted : (v q : ℕ) (d s₄ : List ℕ) (m : ℕ) → m ≡ c + c + c → Norm p c gh r₃ v → Inverse p v q → Scaled p q (between (c + c + c) (c + c + c + c + c + c) r₃) d → s₄ ≡ replicate (length s₃) 0
        → Inverted p c g h rows s (take (c + c + c) r₃ ++ (d ++ drop m (drop (c + c + c) r₃))) s₄
    inverted v q d s₄ m em N I S es =
        let z = take (c + c + c) r₃ ++ (d ++ drop m (drop (c + c + c) r₃)) in
        let long : length r₃ ≡ c + c + c + c + c + c = D.size ∙ B.size ∙ A.size ∙ t.room in
        let part : length (between (c + c + c) (c + c + c + c + c + c) r₃) ≡ c + c + c = between_length (c + c + c) (c + c + c + c + c + c) r₃ (omega arith) (omega arith) ∙ (let o : c + c + c + c + c + c - (c + c + c) ≡ c + c + c = omega arith in o) in
        let put : Around (c + c + c) (c + c + c) r₃ d z = subst (λ j. Around (c + c + c) (c + c + c) r₃ d (take (c + c + c) r₃ ++ (d ++ drop j (drop (c + c + c) r₃)))) (sym em) (put_back (c + c + c) (c + c + c) r₃ d (omega arith) (S.size ∙ part)) in
        let at : (i : ℕ) → i < c + c + c → get_or z (c + c + c + i) 0 ≡ (get_or r₃ (c + c + c + i) 0 * q) % p = (λ i u. put.inside i u ∙ S.at i (omega arith)
        ∙ ap (λ x. (x * q) % p) (get_or-take (c + c + c + c + c + c - (c + c + c)) (drop (c + c + c) r₃) i 0 (omega arith) ∙ get_or-drop (c + c + c) r₃ i 0)) in
        let at₁ : (i : ℕ) → i < c → get_or z (c + c + c + c + i) 0 ≡ (get_or r₃ (c + c + c + c + i) 0 * q) % p = (λ i u. let o : c + c + c + c + i ≡ c + c + c + (c + i) = omega arith in
        ap (λ j. get_or z j 0) o ∙ at (c + i) (omega arith) ∙ ap (λ j. (get_or r₃ j 0 * q) % p) (sym o)) in
        let at₂ : (i : ℕ) → i < c → get_or z (c + c + c + c + c + i) 0 ≡ (get_or r₃ (c + c + c + c + c + i) 0 * q) % p = (λ i u. let o : c + c + c + c + c + i ≡ c + c + c + (c + c + i) = omega arith in
        ap (λ j. get_or z j 0) o ∙ at (c + c + i) (omega arith) ∙ ap (λ j. (get_or r₃ j 0 * q) % p) (sym o)) in
        record {
          size = put.size ∙ D.size ∙ B.size ∙ A.size;
          each = λ i. elim (dec_lt i (c + c + c)) [
            | yes l ↦ subst (λ x. x < p) (sym (put.before i l)) (below₃ i)
            | no l ↦ elim (dec_lt i (c + c + c + c + c + c)) [
              | yes k ↦ subst (λ j. get_or z j 0 < p) (let o : c + c + c + (i - (c + c + c)) ≡ i = omega arith in o) (subst (λ x. x < p) (sym (put.inside (i - (c + c + c)) (omega arith))) (S.each (i - (c + c + c))))
              | no k ↦ subst (λ x. x < p) (sym (put.after i (omega arith))) (below₃ i)
            ]
          ];
          before = λ i u. put.before i u ∙ kept₃ i u;
          law = λ pr ν e. let ρ = reading p pr in let L = ρ.𝓥.L in let o = L.ops in
              let κ = ρ.𝓥.const (ρ.cast v) in
              let μ = ρ.𝓥.const (ρ.cast q) in
              let kn : o.mul κ ν ≡ o.𝟏 = ap (λ x. o.mul x ν) (norm_is pr v N) ∙ e in
              let km : o.mul κ μ ≡ o.𝟏 = sym (ρ.const_mul (ρ.cast v) (ρ.cast q)) ∙ ap ρ.𝓥.const (sym (ρ.cast_mul v q) ∙ sym (ρ.cast_mod (v * q)) ∙ ap ρ.cast I.law ∙ ρ.cast_one) ∙ ρ.const_one in
              let μν : μ ≡ ν = solve_by L (var 1) (var 2) (hyp (var 2) (var 0 :* var 1) one ∷ hyp (minus (var 1)) (var 0 :* var 2) one ∷ []) tt (κ ∷ μ ∷ ν ∷ []) (km, (kn, tt)) in (
                row_scaled ρ q (c + c + c) c r₃ z (λ i u. at i (omega arith)) ∙ ap₂ o.mul μν (F_a pr),
                row_scaled ρ q (c + c + c + c) c r₃ z at₁ ∙ ap₂ o.mul μν (F_b pr),
                row_scaled ρ q (c + c + c + c + c) c r₃ z at₂ ∙ ap₂ o.mul μν (F_c pr),
              );
          blank = es ∙ ap (λ n. replicate n 0) (D.s_size ∙ B.s_size ∙ A.s_size);
        }
