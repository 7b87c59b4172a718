-- What `open` answers.
--   pad l               the list l, with zeros up to 32 places
--   Holds p G H d e f   f is the field of p, G, H, where d and e are the degrees of G and H: the lists as rows, the row of their
--                       product, deg r = (d + 2 e)/3, deg w = (2 d + e)/3
--   Held p G H f        the same, at the degrees of the lists
--   FieldAnswer         document 01's answer: the refusal's number, 0 for none, with the field beside it
--   nothing             the field of zeros
--   refused n           the answer beside the refusal n: nothing but zeros
--   told r              the answer that a result tells
--   Opens p G H o       the whole answer: refusals 1 to 8, then the field
-- In proofs/Opening.antt: `opens_unique`, two answers that meet it are equal; `told_one`, and so are two results that tell one answer;
-- `opens_number`, `opens_held`, what the number beside it says.
use Rattle.std.specs.Prelude.{◌≡◌, List, ℕ, ◌+◌, ◌*◌, get_or, replicate, Result, Ok, Err}
use Rattle.base_answers.specs.declared.Fault.{Fault}
use Rattle.base_answers.specs.Faults.{fault_number}
use Rattle.math_fp.specs.Fp.{Prime}
use Rattle.math_rows.specs.Made.{reading}
use Rattle.math_rows.specs.Row.{Row, tab, row}
use Rattle.field_open.specs.declared.Field.{Field}
use Rattle.field_open.specs.Refusal.{Degree}
use Rattle.field_open.specs.Door.{Door}

abbrev pub pad : List ℕ → List ℕ
pad l = tab 32 (λ i. get_or l i 0)

pub record Holds (p : ℕ) (G H : List ℕ) (d e : ℕ) (f : Field) : Type 0 where
  pub prime : f.p ≡ p
  pub row_g : f.g ≡ pad G
  pub row_h : f.h ≡ pad H
  pub row_gh : Row p f.gh
  pub product : (pr : Prime p) → row (reading p pr) f.gh ≡ (reading p pr).𝓥.L.ops.mul (row (reading p pr) G) (row (reading p pr) H)
  pub deg_r : 3 * f.dr ≡ d + 2 * e
  pub deg_w : 3 * f.dw ≡ 2 * d + e

abbrev pub Held : ℕ → List ℕ → List ℕ → Field → Type 0
Held p G H f = (d e : ℕ) → Degree p G d → Degree p H e → Holds p G H d e f

pub record FieldAnswer : Type 0 where
  pub refusal : ℕ
  pub field : Field

abbrev pub nothing : Field
nothing = record {
  p = 0;
  g = replicate 32 0;
  h = replicate 32 0;
  gh = replicate 32 0;
  dr = 0;
  dw = 0;
}

abbrev pub refused : ℕ → FieldAnswer
refused n = record { refusal = n; field = nothing }

abbrev pub told : Result Field Fault → FieldAnswer
told (Ok f) = record { refusal = 0; field = f }
told (Err k) = refused (fault_number k)

abbrev pub Opens : ℕ → List ℕ → List ℕ → FieldAnswer → Type 0
Opens p G H o = Door p G H (λ n. o ≡ refused n) ((o.refusal ≡ 0) × Held p G H o.field)
