-- `basis_lattice::inside` meets its contract: what is left by U decides.
use mathlib.Core.Path.{refl}
use Rattle.num_mod.proofs.Prepared.{bare}
use Rattle.poly_rows.proofs.Lengths.{by_inverse}
use borrow.Author.Rules.{rules}
use Rattle.base_answers.proofs.Tests.{carried}
use Rattle.basis_lattice.proofs.Members.{inside_both, inside_yes, inside_only}
use Rattle.basis_lattice.proofs.inside.Goals as goal

pub divide_in-x-requires : goal.divide_in-x-requires
divide_in-x-requires c = let i = c.requires in
    record { inp = by_inverse (bare i.modulus) i.prime i.hb i.hu.is_row i.by_u; modulus = i.modulus; sa = i.sb; sb = i.su; blank = refl }

pub divide_in-y-requires : goal.divide_in-y-requires
divide_in-y-requires c = let i = c.requires in
    record { inp = by_inverse (bare i.modulus) i.prime i.hc i.hu.is_row i.by_u; modulus = i.modulus; sa = i.sc; sb = i.su; blank = refl }

pub both_in-n-requires : goal.both_in-n-requires
both_in-n-requires c = let i = c.requires in
    inside_both i.prime i c.divide_in-x.ensures c.divide_in-y.ensures

pub divide_in-z-requires : goal.divide_in-z-requires
divide_in-z-requires c = let i = c.requires in
    let d = c.both_in-n.ensures in
    record { inp = by_inverse (bare i.modulus) i.prime d.is_row i.hu.is_row i.by_u; modulus = i.modulus; sa = d.size; sb = i.su; blank = refl }

pub returns : goal.returns
returns c = let i = c.requires in
    let x = c.divide_in-x.ensures in
    let y = c.divide_in-y.ensures in
    let z = c.divide_in-z.ensures in
    λ pr. carried (inside_yes pr i x.divided y.divided c.both_in-n.ensures z.divided z.sr) (inside_only pr i x.divided y.divided c.both_in-n.ensures z.divided z.sr) (search rules)
