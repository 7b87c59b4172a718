-- What a step on rows asks, and its first half: from the record to the generators of the ideal divided by m.
--   StepOnRowsAsks   an opened field (`Keeps` of crate field_series) and a record of it
--   StepInAsks   what `step_on_rows` asks, the modulus prepared, with n = deg GH, and seven zero rows
--   PartedAsks      the same for some series r, w of the degrees dr, dw
--   Parting     the generators (`Divided` of crate step_divide) of the seven rows of the record, and the degree of m
use Rattle.std.specs.Prelude.{◌≡◌, List, ℕ, ◌+◌, ◌-◌, replicate}
use Rattle.field_series.specs.Keeps.{Keeps}
use Rattle.num_mod.specs.Prepared.{PreparedOf}
use Rattle.num_mod.specs.declared.Modulus.{Modulus}
use Rattle.basis_record.specs.Record.{IsRecord}
use Rattle.basis_record.specs.Seven.{Three, Blank}
use Rattle.basis_record.specs.declared.Seven.{Seven}
use Rattle.step_divide.specs.Generated.{Generators, Divided}
use Rattle.basis_record.specs.Store.{SevenLoaded}
use Rattle.step_part.specs.declared.Measures.{Measures}

pub record StepOnRowsAsks (p : ℕ) (g h gh : List ℕ) (dr dw : ℕ) (r w B : List ℕ) : Type 0 where
  pub G : List ℕ
  pub H : List ℕ
  pub keeps : Keeps p G H g h gh dr dw r w
  pub is_a_record : IsRecord p G H B

pub record StepInAsks (q : Modulus) (g h gh : List ℕ) (n dr dw : ℕ) (r w B : List ℕ) (x y : Three) (d : List ℕ) : Type 0 where
  pub inp : StepOnRowsAsks q.p g h gh dr dw r w B
  pub n_is : n ≡ dr + dw
  pub modulus : PreparedOf q.p q
  pub blank_x : Blank x
  pub blank_y : Blank y
  pub blank_d : d ≡ replicate 32 0

pub record PartedAsks (q : Modulus) (g h gh : List ℕ) (n dr dw : ℕ) (B : List ℕ) (x y : Three) (d : List ℕ) : Type 0 where
  pub r : List ℕ
  pub w : List ℕ
  pub on : StepInAsks q g h gh n dr dw r w B x y d

pub record Parting (p : ℕ) (g h gh B : List ℕ) (o : Generators) (k : Measures) : Type 0 where
  pub b : Seven
  pub loaded : SevenLoaded B b
  pub lm : ℕ
  pub lu : ℕ
  pub divided : Divided p g h gh b o (record { cut = k.cut; x = k.x; y = k.y; d = k.d; m0 = lm; u = lu })
  pub degree : k.degree ≡ lm - lu
