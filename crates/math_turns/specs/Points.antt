-- Elements b r + c w by their two coordinates, as the reduction carries them: row 0 is found at the end.
--   Pt A                  an element: b and c (crate math_triple)
--   X, Y                  its sizes b r + c w and b r − c w
--   side true, false      Y, X: the size that a loop of the reduction looks at
--   D m n                 the determinant X(m) Y(n) − X(n) Y(m)
--   Turned s c k a b a'   a' = s a − c t^k b
--   Moved m n m' n'       m', n' are combinations of m, n by polynomials whose determinant is a constant that is not 0:
--                         the two pairs have one span over the polynomials
-- What a turn does to degrees, and that `Moved` is an equivalence, is in proofs/Turn.antt.
use Rattle.std.specs.Prelude.{◌≡◌, Bool, true, false, ℕ}
use Rattle.math_triple.specs.Sizes.{size_x, size_y}
use Rattle.math_triple.specs.Pairs.{Changed}
use Rattle.math_valued.specs.Polynomial.{polys}
use Rattle.math_rows.specs.Reading.{Reading}
use Rattle.math_rows.specs.Row.{comb}
pub use Rattle.math_triple.specs.Pairs.{Pt}

module _ {p : ℕ} (ρ : Reading p) where
  open ρ use {𝓥}
  open 𝓥 use {K, L}
  open L.ops use {add as ◌+◌, mul as ◌*◌, neg as -◌}

  infixl 60 ◌+◌
  infixl 70 ◌*◌
  infix 80 -◌
  module _ (ρᵣ ω : L.El) where
    abbrev pub X : Pt L.El → L.El
    X a = size_x L.ops ρᵣ ω a.b a.c

    abbrev pub Y : Pt L.El → L.El
    Y a = size_y L.ops ρᵣ ω a.b a.c

    abbrev pub side : Bool → Pt L.El → L.El
    side true a = Y a
    side false a = X a

    abbrev pub D : Pt L.El → Pt L.El → L.El
    D m n = X m * Y n + - (X n * Y m)

  pub record Turned (s c : K.El) (k : ℕ) (a b a' : Pt L.El) : Type 0 where
    pub at_b : a'.b ≡ comb ρ s c k a.b b.b
    pub at_c : a'.c ≡ comb ρ s c k a.c b.c

  abbrev pub Moved : Pt L.El → Pt L.El → Pt L.El → Pt L.El → Type 0
  Moved m n m' n' = Changed (polys 𝓥) L (λ a. a.0) m n m' n'
