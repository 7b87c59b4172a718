-- E times m: the three coordinates, one after the other, make the rows of E' with U E' = E M.
use mathlib.Core.Path.{◌≡◌, refl, sym, ap, ap₂, ◌∙◌, subst}
use mathlib.Core.List.{List, [], ◌∷◌}
use Prim.Native.Nat.{ℕ, ◌+◌, ◌-◌, ◌<◌, ◌≤◌}
use native.Mathlib.Omega.{arith}
use native.Mathlib.Decide.{dec_lt}
use lib.ListN.{length, get_or}
use Rattle.math_ring.proofs.Solve.{var, ◌:+◌, ◌:*◌, solve}
use Rattle.math_fp.specs.Fp.{Prime}
use Rattle.math_rows.specs.Reading.{Reading}
use Rattle.math_rows.specs.Made.{reading}
use Rattle.math_rows.specs.Row.{row, coefs}
use Rattle.math_rows.proofs.Tab.{at_tab, past_tab}
use Rattle.math_rows.proofs.Rows.{psum_ext, row_tab, row_upto}
use Rattle.base_lists.specs.Pieces.{cut, between}
use Rattle.unit_rows.specs.Six.{Monic, By, CoordinateAsks, Coordinate, TimesAsks, Times}
pub use Rattle.base_lists.proofs.Pieces.{cut_same}
use Rattle.base_lists.proofs.Pieces.{between_length, between_cut}

-- zeros above n do not count
pub row_grow : {p : ℕ} (ρ : Reading p) (at n c : ℕ) (s : List ℕ) → n ≤ c → ((i : ℕ) → n ≤ i → i < c → get_or s (at + i) 0 ≡ 0) → row ρ (cut at c s) ≡ row ρ (cut at n s)
row_grow ρ at n c s l h =
    row_upto ρ (cut at c s) n (λ i u. elim (dec_lt i c) [ yes v ↦ at_tab c (λ i. get_or s (at + i) 0) i v ∙ h i u v | no v ↦ past_tab c (λ i. get_or s (at + i) 0) i (omega arith) ])
    ∙ psum_ext ρ n (coefs ρ (cut at c s)) (λ i. ρ.cast (get_or s (at + i) 0)) (λ i u. ap ρ.cast (at_tab c (λ i. get_or s (at + i) 0) i (omega arith)))
    ∙ sym (row_tab ρ n (λ i. get_or s (at + i) 0))

-- one row, of which the later ones leave all as it is
module _ {p c n : ℕ} {a b d u e : List ℕ} {at : ℕ} {s s' : List ℕ} (C : Coordinate p c n a b d u e at s s') (z : List ℕ) (l : n ≤ c) (pos : 0 < p)
    (keep : (i : ℕ) → i < c → get_or z (at + i) 0 ≡ get_or s' (at + i) 0) (blank : (i : ℕ) → n ≤ i → i < c → get_or s (at + i) 0 ≡ 0) where
  above : (i : ℕ) → n ≤ i → i < c → get_or z (at + i) 0 ≡ 0
  above i f g = keep i g ∙ C.after (at + i) (omega arith) ∙ blank i f g

  pub lay_each : (i : ℕ) → i < c → get_or z (at + i) 0 < p
  lay_each i g = elim (dec_lt i n) [
    | yes f ↦ subst (λ v. v < p) (sym (keep i g)) (C.each i f)
    | no f ↦ subst (λ v. v < p) (sym (above i (omega arith) g)) pos
  ]

  pub lay_row : (pr : Prime p) → row (reading p pr) (cut at c z) ≡ row (reading p pr) (cut at n s')
  lay_row pr = row_grow (reading p pr) at n c z l above ∙ ap (row (reading p pr)) (cut_same at n z s' (λ i f. keep i (omega arith)))

module _ (p c n : ℕ) (g h gh b e s : List ℕ) (t : TimesAsks p c n g h gh b e s) where
  -- the four rows of the record
  pub piece_length : (f k : ℕ) → f ≤ k → k ≤ 119 → length (between f k b) ≡ k - f
  piece_length f k u v = between_length f k b u (let o : length b ≡ 119 = t.b_size in omega arith)

  piece_cut : (f k : ℕ) → f ≤ k → k ≤ 119 → between f k b ≡ cut f (k - f) b
  piece_cut f k u v = between_cut f k b u (let o : length b ≡ 119 = t.b_size in omega arith)

  pub times_asks : (x y z : List ℕ) (at : ℕ) (r : List ℕ) → length x ≤ 4096 → length y ≤ 4096 → length z ≤ 4096 → at + n ≤ length r → CoordinateAsks p c n x y z (between 102 119 b) e at r
  times_asks x y z at r lx ly lz lr = record {
    modulus = t.modulus;
    a_most = lx;
    b_most = ly;
    d_most = lz;
    u_most = let o : length (between 102 119 b) ≡ 17 = piece_length 102 119 (omega arith) (omega arith) in omega arith;
    monic = subst Monic (sym (piece_cut 102 119 (omega arith) (omega arith))) t.monic;
    most = t.most;
    upto = t.upto;
    e_room = t.e_room;
    s_room = lr;
  }

  module _ (m1gh m2gh m2g m1h s₁ s₂ s₃ : List ℕ)
      (B₁ : By p (between 17 34 b) gh m1gh) (B₂ : By p (between 34 51 b) gh m2gh) (B₃ : By p (between 34 51 b) g m2g) (B₄ : By p (between 17 34 b) h m1h)
      (C₁ : Coordinate p c n (between 0 17 b) m2gh m1gh (between 102 119 b) e 0 s s₁)
      (C₂ : Coordinate p c n (between 17 34 b) (between 0 17 b) m2g (between 102 119 b) e c s₁ s₂)
      (C₃ : Coordinate p c n (between 34 51 b) m1h (between 0 17 b) (between 102 119 b) e (c + c) s₂ s₃) where
    pos : 0 < p
    pos = let o : 1 < p = t.modulus.prime.big in omega arith

    upto : n ≤ c
    upto = t.upto

    keep₁ : (i : ℕ) → i < c → get_or s₃ (0 + i) 0 ≡ get_or s₁ (0 + i) 0
    keep₁ i f = C₃.before (0 + i) (omega arith) ∙ C₂.before (0 + i) (omega arith)

    keep₂ : (i : ℕ) → i < c → get_or s₃ (c + i) 0 ≡ get_or s₂ (c + i) 0
    keep₂ i f = C₃.before (c + i) (omega arith)

    blank₂ : (i : ℕ) → n ≤ i → i < c → get_or s₁ (c + i) 0 ≡ 0
    blank₂ i f k = let o = upto in C₁.after (c + i) (omega arith) ∙ t.blank (c + i)

    blank₃ : (i : ℕ) → n ≤ i → i < c → get_or s₂ (c + c + i) 0 ≡ 0
    blank₃ i f k = let o = upto in C₂.after (c + c + i) (omega arith) ∙ C₁.after (c + c + i) (omega arith) ∙ t.blank (c + c + i)

    past : (i : ℕ) → c + c + c ≤ i → get_or s₃ i 0 ≡ 0
    past i f = let o = upto in C₃.after i (omega arith) ∙ C₂.after i (omega arith) ∙ C₁.after i (omega arith) ∙ t.blank i

    below : (i : ℕ) → get_or s₃ i 0 < p
    below i = elim (dec_lt i c) [
      | yes f ↦ subst (λ j. get_or s₃ j 0 < p) (let o : 0 + i ≡ i = omega arith in o) (lay_each C₁ s₃ upto pos keep₁ (λ j u v. t.blank (0 + j)) i f)
      | no f ↦ elim (dec_lt i (c + c)) [
        | yes k ↦ subst (λ j. get_or s₃ j 0 < p) (let o : c + (i - c) ≡ i = omega arith in o) (lay_each C₂ s₃ upto pos keep₂ blank₂ (i - c) (omega arith))
        | no k ↦ elim (dec_lt i (c + c + c)) [
          | yes m ↦ subst (λ j. get_or s₃ j 0 < p) (let o : c + c + (i - (c + c)) ≡ i = omega arith in o) (lay_each C₃ s₃ upto pos (λ j v. refl) blank₃ (i - (c + c)) (omega arith))
          | no m ↦ subst (λ v. v < p) (sym (past i (omega arith))) pos
        ]
      ]
    ]

    pub times_made : Times p c n g h gh b e s s₃
    times_made = record {
      size = C₃.size ∙ C₂.size ∙ C₁.size;
      each = below;
      rest = past;
      law = λ pr x y z hx hy hz lx ly lz ex ey ez.
          let ρ = reading p pr in let L = ρ.𝓥.L in let o = L.ops in
          let m₀ : row ρ (between 0 17 b) ≡ row ρ (cut 0 17 b) = ap (row ρ) (piece_cut 0 17 (omega arith) (omega arith)) in
          let m₁ : row ρ (between 17 34 b) ≡ row ρ (cut 17 17 b) = ap (row ρ) (piece_cut 17 34 (omega arith) (omega arith)) in
          let m₂ : row ρ (between 34 51 b) ≡ row ρ (cut 34 17 b) = ap (row ρ) (piece_cut 34 51 (omega arith) (omega arith)) in
          let w : row ρ (between 102 119 b) ≡ row ρ (cut 102 17 b) = ap (row ρ) (piece_cut 102 119 (omega arith) (omega arith)) in
          let E = row ρ (cut 0 c e) in let F = row ρ (cut c c e) in let K = row ρ (cut (c + c) c e) in
          let A = row ρ (cut 0 17 b) in let B = row ρ (cut 17 17 b) in let D = row ρ (cut 34 17 b) in (
            lay_row C₁ s₃ upto pos keep₁ (λ j u v. t.blank (0 + j)) pr
                ∙ C₁.law pr x hx lx (ap (λ v. o.mul v x) w ∙ ex
                ∙ solve L (var 0 :* var 3 :+ (var 1 :* var 5 :+ var 2 :* var 4) :* var 6) (var 3 :* var 0 :+ var 5 :* var 6 :* var 1 :+ var 4 :* var 6 :* var 2) tt (E ∷ F ∷ K ∷ A ∷ B ∷ D ∷ row ρ gh ∷ [])
                ∙ sym (ap₂ o.add (ap₂ o.add (ap (λ v. o.mul v E) m₀) (ap (λ v. o.mul v F) (B₂.law pr ∙ ap (λ v. o.mul v (row ρ gh)) m₂))) (ap (λ v. o.mul v K) (B₁.law pr ∙ ap (λ v. o.mul v (row ρ gh)) m₁)))),
            lay_row C₂ s₃ upto pos keep₂ blank₂ pr
                ∙ C₂.law pr y hy ly (ap (λ v. o.mul v y) w ∙ ey
                ∙ solve L (var 0 :* var 4 :+ var 1 :* var 3 :+ var 2 :* var 5 :* var 6) (var 4 :* var 0 :+ var 3 :* var 1 :+ var 5 :* var 6 :* var 2) tt (E ∷ F ∷ K ∷ A ∷ B ∷ D ∷ row ρ g ∷ [])
                ∙ sym (ap₂ o.add (ap₂ o.add (ap (λ v. o.mul v E) m₁) (ap (λ v. o.mul v F) m₀)) (ap (λ v. o.mul v K) (B₃.law pr ∙ ap (λ v. o.mul v (row ρ g)) m₂)))),
            lay_row C₃ s₃ upto pos (λ j v. refl) blank₃ pr
                ∙ C₃.law pr z hz lz (ap (λ v. o.mul v z) w ∙ ez
                ∙ solve L (var 0 :* var 5 :+ var 2 :* var 3 :+ var 1 :* var 4 :* var 6) (var 5 :* var 0 :+ var 4 :* var 6 :* var 1 :+ var 3 :* var 2) tt (E ∷ F ∷ K ∷ A ∷ B ∷ D ∷ row ρ h ∷ [])
                ∙ sym (ap₂ o.add (ap₂ o.add (ap (λ v. o.mul v E) m₂) (ap (λ v. o.mul v F) (B₄.law pr ∙ ap (λ v. o.mul v (row ρ h)) m₁))) (ap (λ v. o.mul v K) m₀))),
          );
    }
