-- `poly_rows::mul` meets its contract: a row filled up to the product's length, then `product`.
use mathlib.Core.Path.{◌≡◌, sym, subst}
use mathlib.Core.List.{List}
use Prim.Native.Nat.{ℕ, ◌≤◌, ◌+◌}
use native.Mathlib.Omega.{arith}
use Rattle.math_rows.specs.Row.{Row}
use Rattle.math_rows.proofs.Tab.{begun_start, begun_more}
use Rattle.poly_rows.specs.Leaf.{MulAsks, Product}
use Rattle.poly_rows.proofs.Coefficients.{product}
use Rattle.poly_rows.proofs.mul.Goals as goal

-- p is the number of what is prepared of it
carry : {p k : ℕ} {x : List ℕ} → k ≡ p → Row p x → Row k x
carry {x = x} e h = subst (λ j. Row j x) (sym e) h

ask : {p k : ℕ} {x y : List ℕ} → k ≡ p → MulAsks p x y → MulAsks k x y
ask {x = x} {y = y} e h = subst (λ j. MulAsks j x y) (sym e) h

back : {p k : ℕ} {x y r : List ℕ} → k ≡ p → Product k x y r → Product p x y r
back {x = x} {y = y} {r = r} e h = subst (λ j. Product j x y r) e h

pub loop-k-init : goal.loop-k-init
loop-k-init c = begun_start 32 _

pub product_coefficient-requires : goal.product_coefficient-requires
product_coefficient-requires c = let e = c.prepare-q.ensures in
    record {
      modulus = e.prepared;
      hx = carry e.is c.requires.hx;
      hy = carry e.is c.requires.hy;
      sx = c.size-n.ensures;
      sy = c.size-m.ensures;
      inside = omega arith;
    }

pub loop-k-preserved : goal.loop-k-preserved
loop-k-preserved c = let r : c.size-n.result + c.size-m.result ≤ 33 = c.requires.room _ _ c.size-n.ensures c.size-m.ensures in
    let l = c.loop-k in
    begun_more 32 _ _ l.k _ l.invariant (omega arith) c.product_coefficient.ensures

pub returns : goal.returns
returns c = let e = c.prepare-q.ensures in
    let z = c.size-n in
    let w = c.size-m in
    back e.is (product _ c.args.x.now c.args.y.now z.result w.result c.loop-k.k _ (ask e.is c.requires) z.ensures w.ensures (omega arith) c.loop-k.invariant)
