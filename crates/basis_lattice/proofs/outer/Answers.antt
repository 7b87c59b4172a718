-- `basis_lattice::outer` meets its contract: two determinants, and their quotients by e.
use Rattle.basis_lattice.proofs.Quotients.{s_asks, t_asks, by_e}
use Rattle.basis_lattice.proofs.outer.Goals as goal

pub det_in-ls-requires : goal.det_in-ls-requires
det_in-ls-requires c = let i = c.requires in
    s_asks i.inp i.blank_s

pub quotient_in-lb-requires : goal.quotient_in-lb-requires
quotient_in-lb-requires c = let i = c.requires in
    let d = c.det_in-ls.ensures in
    by_e i.inp d.is_row d.size i.blank_β

pub det_in-lt-requires : goal.det_in-lt-requires
det_in-lt-requires c = let i = c.requires in
    t_asks i.inp i.blank_t

pub quotient_in-lc-requires : goal.quotient_in-lc-requires
quotient_in-lc-requires c = let i = c.requires in
    let d = c.det_in-lt.ensures in
    by_e i.inp d.is_row d.size i.blank_γ

pub returns : goal.returns
returns c = record {
  s_is = c.det_in-ls.ensures;
  t_is = c.det_in-lt.ensures;
  β_is = c.quotient_in-lb.ensures;
  γ_is = c.quotient_in-lc.ensures;
}
