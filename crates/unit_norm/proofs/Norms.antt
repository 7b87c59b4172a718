-- The code's products are the norm.
--   square_from, cubes_from, norm_from   what the functions hand out
--   norm_unique                          two lists that meet `Norm` at a prime are equal
use mathlib.Core.Path.{◌≡◌, sym, ap, ap₂, ◌∙◌}
use mathlib.Core.List.{List, [], ◌∷◌}
use Prim.Native.Nat.{ℕ, ◌+◌, ◌-◌, ◌≤◌}
use native.Mathlib.Omega.{arith}
use lib.ListN.{length}
use Rattle.math_ring.proofs.Solve.{var, one, minus, ◌:+◌, ◌:*◌, solve}
use Rattle.math_fp.specs.Fp.{Prime}
use Rattle.math_rows.specs.Reading.{Reading}
use Rattle.math_rows.specs.Made.{reading}
use Rattle.math_rows.specs.Row.{row}
use Rattle.math_rows.proofs.Rows.{const_neg, cast_sub}
use Rattle.math_rows.proofs.Unique.{list_unique}
use Rattle.poly_long.specs.Long.{Scaled}
use Rattle.poly_mix.specs.Mixing.{Mixed}
use Rattle.poly_mix.proofs.Mixing.{whole}
use Rattle.poly_products.specs.Products.{Times}
use Rattle.unit_norm.specs.Code.{SquareAsks, Square, CubesAsks, Cubes, cubes_of, NormAsks, Norm}

-- the remainder p − 3 stands for −3
thrice : {p : ℕ} (ρ : Reading p) → 3 ≤ p → let o = ρ.𝓥.L.ops in ρ.𝓥.const (ρ.cast (p - 3)) ≡ o.neg (o.add (o.add o.𝟏 o.𝟏) o.𝟏)
thrice ρ l = let o = ρ.𝓥.L.ops in let one_is : ρ.𝓥.const (ρ.cast 1) ≡ o.𝟏 = ap ρ.𝓥.const ρ.cast_one ∙ ρ.const_one in
    ap ρ.𝓥.const (cast_sub ρ 3 l) ∙ const_neg ρ (ρ.cast 3)
    ∙ ap o.neg (ap ρ.𝓥.const (ρ.cast_add 2 1) ∙ ρ.const_add (ρ.cast 2) (ρ.cast 1)
    ∙ ap₂ o.add (ap ρ.𝓥.const (ρ.cast_add 1 1) ∙ ρ.const_add (ρ.cast 1) (ρ.cast 1) ∙ ap₂ o.add one_is one_is) one_is)

pub square_from : (p : ℕ) (gh a b c z bc s out r : List ℕ) → SquareAsks p gh a b c out → length z ≡ 8192
    → Times p b c z bc → Scaled p (p - 3) bc s → Mixed p a a gh s out r → Square p gh a b c out r
square_from p gh a b c z bc s out r w e t q m = record {
  size = m.size;
  law = λ pr.
      let ρ = reading p pr in
      let L = ρ.𝓥.L in
      let o = L.ops in
      let la : length a ≡ 4096 = w.size_a in
      let lg : length gh ≡ 26 = w.size_gh in
      let ld : length out ≡ 8218 = w.room in
      let ls : length s ≡ 8192 = q.size ∙ t.size ∙ e in
      whole (omega arith) (omega arith) m pr
      ∙ ap (λ x. o.add (o.mul (row ρ a) (row ρ a)) (o.mul (row ρ gh) x)) (q.law pr ∙ ap₂ o.mul (thrice ρ w.three) (t.law pr))
      ∙ solve L (var 0 :* var 0 :+ var 1 :* (minus (one :+ one :+ one) :* (var 2 :* var 3)))
      (var 0 :* var 0 :+ minus (var 1 :* (var 2 :* var 3) :+ var 1 :* (var 2 :* var 3) :+ var 1 :* (var 2 :* var 3))) tt (row ρ a ∷ row ρ gh ∷ row ρ b ∷ row ρ c ∷ []);
}

pub cubes_from : (p : ℕ) (g h b c z0 z1 z2 z3 hb bb gc cc out r : List ℕ) → CubesAsks p g h b c out → length z0 ≡ 4109 → length z1 ≡ 8192 → length z2 ≡ 4109 → length z3 ≡ 8192
    → Times p h b z0 hb → Times p b b z1 bb → Times p g c z2 gc → Times p c c z3 cc → Mixed p hb bb gc cc out r → Cubes p g h b c out r
cubes_from p g h b c z0 z1 z2 z3 hb bb gc cc out r w e0 e1 e2 e3 t0 t1 t2 t3 m = record {
  size = m.size;
  law = λ pr.
      let o = (reading p pr).𝓥.L.ops in
      let l0 : length hb ≡ 4109 = t0.size ∙ e0 in
      let l1 : length bb ≡ 8192 = t1.size ∙ e1 in
      let l2 : length gc ≡ 4109 = t2.size ∙ e2 in
      let l3 : length cc ≡ 8192 = t3.size ∙ e3 in
      let ld : length out ≡ 12301 = w.room in
      whole (omega arith) (omega arith) m pr ∙ ap₂ o.add (ap₂ o.mul (t0.law pr) (t1.law pr)) (ap₂ o.mul (t2.law pr) (t3.law pr));
}

pub norm_from : (p : ℕ) (g h a b c z0 z1 z2 gh x y out r : List ℕ) → NormAsks p g h a b c out → length z0 ≡ 26 → length z1 ≡ 8218 → length z2 ≡ 12301
    → Times p g h z0 gh → Square p gh a b c z1 x → Cubes p g h b c z2 y → Mixed p a x gh y out r → Norm p g h a b c out r
norm_from p g h a b c z0 z1 z2 gh x y out r w e0 e1 e2 t q k m = record {
  size = m.size;
  each = m.each;
  law = λ pr.
      let ρ = reading p pr in
      let L = ρ.𝓥.L in
      let o = L.ops in
      let la : length a ≡ 4096 = w.size_a in
      let lg : length gh ≡ 26 = t.size ∙ e0 in
      let lx : length x ≡ 8218 = q.size ∙ e1 in
      let ly : length y ≡ 12301 = k.size ∙ e2 in
      let ld : length out ≡ 12327 = w.room in
      whole (omega arith) (omega arith) m pr
      ∙ ap₂ (λ u v. o.add (o.mul (row ρ a) u) (o.mul (row ρ gh) v)) (q.law pr) (k.law pr)
      ∙ ap (λ u. let v = o.mul u (o.mul (row ρ b) (row ρ c)) in
      o.add (o.mul (row ρ a) (o.add (o.mul (row ρ a) (row ρ a)) (o.neg (o.add (o.add v v) v)))) (o.mul u (cubes_of p pr g h b c))) (t.law pr)
      ∙ solve L
      (var 2 :* (var 2 :* var 2 :+ minus (var 0 :* var 1 :* (var 3 :* var 4) :+ var 0 :* var 1 :* (var 3 :* var 4) :+ var 0 :* var 1 :* (var 3 :* var 4)))
      :+ var 0 :* var 1 :* (var 1 :* var 3 :* (var 3 :* var 3) :+ var 0 :* var 4 :* (var 4 :* var 4)))
      (var 2 :* var 2 :* var 2 :+ var 3 :* var 3 :* var 3 :* (var 0 :* (var 1 :* var 1)) :+ var 4 :* var 4 :* var 4 :* (var 0 :* var 0 :* var 1)
      :+ minus (var 2 :* var 3 :* var 4 :* (var 0 :* var 1) :+ var 2 :* var 3 :* var 4 :* (var 0 :* var 1) :+ var 2 :* var 3 :* var 4 :* (var 0 :* var 1)))
      tt (row ρ g ∷ row ρ h ∷ row ρ a ∷ row ρ b ∷ row ρ c ∷ []);
}

pub norm_unique : {p : ℕ} (pr : Prime p) {g h a b c d r s : List ℕ} → Norm p g h a b c d r → Norm p g h a b c d s → r ≡ s
norm_unique {p} pr {r = r} {s = s} x y = list_unique (reading p pr) r s (x.size ∙ sym y.size) x.each y.each (x.law pr ∙ sym (y.law pr))
