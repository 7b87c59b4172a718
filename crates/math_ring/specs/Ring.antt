-- Commutative rings.
--   Ops A      the operations on A: add, mul, neg, 𝟎, 𝟏
--   Laws A o   A is a set, and the operations obey the laws of a commutative ring
--   CRing      a set with operations and laws
--   nat o n    the numeral n, 1 + (1 + .. + 0)
--   Hom o q f  the map f keeps the operations: it keeps every expression (proofs/Hom)
-- Operations stand apart from laws, so that a definition such as a norm is written once, over any `Ops A`, and is read both in a
-- ring and in the solver's expressions. What follows from the laws is in proofs/Laws.antt, the solver in proofs/Solve.antt.
use Rattle.std.specs.Prelude.{◌≡◌, ℕ, zero, suc}

pub record Ops (A : Type 0) : Type 0 where
  pub add : A → A → A
  pub mul : A → A → A
  pub neg : A → A
  pub 𝟎 : A
  pub 𝟏 : A

pub record Laws (A : Type 0) (o : Ops A) : Type 0 where
  pub is_set : IsSet A
  pub add_assoc : (a b c : A) → o.add (o.add a b) c ≡ o.add a (o.add b c)
  pub add_comm : (a b : A) → o.add a b ≡ o.add b a
  pub add-zero : (a : A) → o.add a o.𝟎 ≡ a
  pub add_neg : (a : A) → o.add a (o.neg a) ≡ o.𝟎
  pub mul_assoc : (a b c : A) → o.mul (o.mul a b) c ≡ o.mul a (o.mul b c)
  pub mul_comm : (a b : A) → o.mul a b ≡ o.mul b a
  pub mul-one : (a : A) → o.mul a o.𝟏 ≡ a
  pub mul-add : (a b c : A) → o.mul a (o.add b c) ≡ o.add (o.mul a b) (o.mul a c)

pub record CRing : Type 1 where
  pub El : Type 0
  pub ops : Ops El
  pub laws : Laws El ops

-- the numeral n: 1 + (1 + .. (1 + 0))
unfoldable pub nat : {A : Type 0} → Ops A → ℕ → A
nat o zero = o.𝟎
nat o (suc n) = o.add o.𝟏 (nat o n)

pub record Hom {A B : Type 0} (o : Ops A) (q : Ops B) (f : A → B) : Type 0 where
  pub add : (x y : A) → f (o.add x y) ≡ q.add (f x) (f y)
  pub mul : (x y : A) → f (o.mul x y) ≡ q.mul (f x) (f y)
  pub neg : (x : A) → f (o.neg x) ≡ q.neg (f x)
  pub 𝟎 : f o.𝟎 ≡ q.𝟎
  pub 𝟏 : f o.𝟏 ≡ q.𝟏
