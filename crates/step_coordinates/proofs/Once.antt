-- One outcome for each input: the coordinates of r m and of w m with their lengths, and a row negated.
use mathlib.Core.Path.{◌≡◌, sym, ap, ◌∙◌, subst}
use mathlib.Core.List.{List}
use Prim.Native.Nat.{ℕ}
use Rattle.math_fp.specs.Fp.{Prime}
use Rattle.math_rows.specs.Made.{reading}
use Rattle.math_rows.specs.Row.{Row, Size}
use Rattle.math_rows.proofs.Unique.{row_unique}
use Rattle.poly_rows.proofs.Leaf.{size_unique}
use Rattle.math_chain.specs.Parts.{Parts}
use Rattle.math_chain.proofs.Parts.{parts}
use Rattle.field_open.specs.Refusal.{Accepted}
use Rattle.basis_record.specs.Record.{setting, poly_of}
use Rattle.basis_record.specs.Seven.{rows_of, Three}
use Rattle.basis_record.specs.declared.Seven.{Seven}
use Rattle.basis_lattice.specs.Coordinates.{AreSpans}
use Rattle.basis_lattice.specs.declared.Spans.{Spans}
use Rattle.step_coordinates.specs.Turns.{GeneratorsAsks, TurnedR, TurnedW, Negated}

module _ {p : ℕ} {G H : List ℕ} (σ : Accepted p G H) where
  -- one row of the three, and its length
  one_row : {l m : List ℕ} {j k : ℕ} → Row p l → Row p m → Size l j → Size m k → poly_of σ l ≡ poly_of σ m → (l ≡ m) × (j ≡ k)
  one_row {k = k} h h' s s' e =
      let q = row_unique (reading p σ.prime) h h' (ap (λ z. z.0) e) in
      (q, size_unique s (subst (λ z. Size z k) (sym q) s'))

  three_unique : {t t' : Three} {o o' : Spans} → AreSpans p t o → AreSpans p t' o' → poly_of σ t.a ≡ poly_of σ t'.a → poly_of σ t.b ≡ poly_of σ t'.b
      → poly_of σ t.c ≡ poly_of σ t'.c → (t ≡ t') × (o ≡ o')
  three_unique s s' e f g =
      let (a, la) = one_row s.ha s'.ha s.sa s'.sa e in
      let (b, lb) = one_row s.hb s'.hb s.sb s'.sb f in
      let (c, lc) = one_row s.hc s'.hc s.sc s'.sc g in
      ((λ i. record { a = a i; b = b i; c = c i }), (λ i. record { a = la i; b = lb i; c = lc i }))

module _ {p cap : ℕ} {g h gh : List ℕ} {ie : ℕ} {b : Seven} (i : GeneratorsAsks p cap g h gh ie b) where
  abbrev k : Parts (setting i.σ) (rows_of i.σ b)
  k = parts (setting i.σ) (rows_of i.σ b) i.good.ideal

  pub turned_r_unique : {t t' : Three} {o o' : Spans} → TurnedR p h gh b t o → TurnedR p h gh b t' o' → (t ≡ t') × (o ≡ o')
  turned_r_unique x y =
      let (a, b, c) = x.law i.σ i.holds k.of_r in
      let (a', b', c') = y.law i.σ i.holds k.of_r in
      three_unique i.σ x.spans y.spans (a ∙ sym a') (b ∙ sym b') (c ∙ sym c')

  pub turned_w_unique : {t t' : Three} {o o' : Spans} → TurnedW p g gh b t o → TurnedW p g gh b t' o' → (t ≡ t') × (o ≡ o')
  turned_w_unique x y =
      let (a, b, c) = x.law i.σ i.holds k.of_w in
      let (a', b', c') = y.law i.σ i.holds k.of_w in
      three_unique i.σ x.spans y.spans (a ∙ sym a') (b ∙ sym b') (c ∙ sym c')

pub negated_unique : {p : ℕ} (pr : Prime p) {x o o' : List ℕ} {n : ℕ} → Negated p x o n → Negated p x o' n → o ≡ o'
negated_unique {p} pr h k = row_unique (reading p pr) h.opposite.is_row k.opposite.is_row (h.opposite.law pr ∙ sym (k.opposite.law pr))
