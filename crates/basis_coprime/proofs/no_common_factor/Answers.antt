-- `basis_coprime::no_common_factor` meets its contract: the length of a greatest common divisor of the seven.
use borrow.Author.Rules.{rules}
use Rattle.basis_coprime.proofs.Coprime.{alone}
use Rattle.basis_coprime.proofs.no_common_factor.Goals as goal

pub gcd-a-requires : goal.gcd-a-requires
gcd-a-requires c = let i = c.requires in record { modulus = i.modulus; prime = i.prime; hx = i.rows 6; hy = i.rows 0 }

pub gcd-b-requires : goal.gcd-b-requires
gcd-b-requires c = let i = c.requires in record { modulus = i.modulus; prime = i.prime; hx = c.gcd-a.ensures.is_row; hy = i.rows 1 }

pub gcd-c-requires : goal.gcd-c-requires
gcd-c-requires c = let i = c.requires in record { modulus = i.modulus; prime = i.prime; hx = c.gcd-b.ensures.is_row; hy = i.rows 2 }

pub gcd-d-requires : goal.gcd-d-requires
gcd-d-requires c = let i = c.requires in record { modulus = i.modulus; prime = i.prime; hx = c.gcd-c.ensures.is_row; hy = i.rows 3 }

pub gcd-e-requires : goal.gcd-e-requires
gcd-e-requires c = let i = c.requires in record { modulus = i.modulus; prime = i.prime; hx = c.gcd-d.ensures.is_row; hy = i.rows 4 }

pub gcd-g-requires : goal.gcd-g-requires
gcd-g-requires c = let i = c.requires in record { modulus = i.modulus; prime = i.prime; hx = c.gcd-e.ensures.is_row; hy = i.rows 5 }

pub returns : goal.returns
returns c = alone c.gcd-a.ensures c.gcd-b.ensures c.gcd-c.ensures c.gcd-d.ensures c.gcd-e.ensures c.gcd-g.ensures c.size-n.ensures (search rules)
