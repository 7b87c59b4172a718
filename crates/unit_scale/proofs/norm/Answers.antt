-- `unit_scale::norm` meets its contract: proofs/Numbers.antt.
use mathlib.Core.Path.{refl}
use native.Mathlib.Omega.{arith}
use Rattle.unit_scale.proofs.Numbers.{two, below, norm_made}
use Rattle.unit_scale.proofs.norm.Goals as goal

pub mul-x-requires : goal.mul-x-requires
mul-x-requires c = two c.requires.modulus c.requires.h_below (below c.requires.modulus _ c.product.ensures)

pub mul-y-requires : goal.mul-y-requires
mul-y-requires c = two c.requires.modulus c.requires.g_below (below c.requires.modulus _ c.product-2.ensures)

pub mul-z-requires : goal.mul-z-requires
mul-z-requires c = two c.requires.modulus (let o = c.requires.three in omega arith) (below c.requires.modulus _ c.product-3.ensures)

-- the sums of remainders fit
pub overflow_add-s : goal.overflow_add-s
overflow_add-s c = let m = c.requires.modulus in
    let x = below m _ c.mul-x.ensures in
    let y = below m _ c.mul-y.ensures in
    let o = m.small in
    omega arith

pub overflow_add-s-2 : goal.overflow_add-s-2
overflow_add-s-2 c = let m = c.requires.modulus in
    let x = below m _ c.mul-x.ensures in
    let y = below m _ c.mul-y.ensures in
    let z = below m _ c.mul-z.ensures in
    let o = m.small in
    omega arith

pub product-m-requires : goal.product-m-requires
product-m-requires c = record { modulus = c.requires.modulus; a_below = c.requires.g_below; b_below = c.requires.h_below; c_below = below c.requires.modulus _ refl }

pub overflow_add-result : goal.overflow_add-result
overflow_add-result c = let m = c.requires.modulus in
    let x = below m _ c.product-4.ensures in
    let y = below m _ c.product-m.ensures in
    let o = m.small in
    omega arith

pub returns : goal.returns
returns c = let a = c.args in
    norm_made a.p a.g a.h a.a a.b a.c _ _ _ _ _ _ _ _ c.requires c.product.ensures c.product-2.ensures
    c.product-3.ensures c.mul-x.ensures c.mul-y.ensures c.mul-z.ensures c.product-m.ensures c.product-4.ensures
