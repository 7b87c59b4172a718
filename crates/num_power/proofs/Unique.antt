-- The inverse and the cube root are one number each: what meets the contract is the function's answer.
use mathlib.Core.Path.{◌≡◌, sym, ◌∙◌}
use Prim.Native.Nat.{ℕ}
use Rattle.math_fp.proofs.Value.{inverse_mod_unique, root_mod_unique}
use Rattle.num_power.specs.Powers.{Nonzero, Rooted, Inverse, CubeRoot}

pub inverse_unique : (p a r s : ℕ) → Nonzero p a → Inverse p a r → Inverse p a s → r ≡ s
inverse_unique p a r s k i j = inverse_mod_unique p k.prime a k.below r s i.below j.below i.law j.law

pub cube_root_unique : (p a r s : ℕ) → Rooted p a → CubeRoot p a r → CubeRoot p a s → r ≡ s
cube_root_unique p a r s k i j =
    root_mod_unique p k.prime a k.below k.kind r i.below i.law
    ∙ sym (root_mod_unique p k.prime a k.below k.kind s j.below j.law)
