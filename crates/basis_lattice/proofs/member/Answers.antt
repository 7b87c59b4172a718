-- `basis_lattice::member` meets its contract: three divisions, and what each leaves.
use mathlib.Core.Path.{refl, sym, ◌∙◌}
use mathlib.Core.Bool.{true≢false}
use native.Mathlib.Omega.{arith}
use Rattle.std.proofs.lemmas.Bool.{eqb-true, eq-eqb}
use Rattle.base_answers.proofs.Tests.{carried}
use Rattle.basis_lattice.proofs.Members.{member_first, member_second, member_of, member_in}
use Rattle.basis_lattice.proofs.member.Goals as goal
use Rattle.basis_lattice.proofs.member.Goals.{then-less_in-eq0, else-less_in-eq0}

pub outer-o-requires : goal.outer-o-requires
outer-o-requires c = record { va = _; na = _; inp = c.requires.inp; blank_s = refl; blank_t = refl; blank_β = refl; blank_γ = refl }

pub less_in-requires : goal.less_in-requires
less_in-requires c = let i = c.requires.inp in
    let o = c.outer-o.ensures in
    record { modulus = i.modulus; prime = i.prime; hx = o.β_is.quotient.is_row; hy = i.he; sx = o.β_is.size; sy = i.se; fits = o.β_is.quotient.room _ _ o.β_is.size i.se; hr = o.s_is.is_row }

pub less_in-requires-then-less_in-eq0 : goal.less_in-requires-then-less_in-eq0
less_in-requires-then-less_in-eq0 c = let i = c.requires.inp in
    let o = c.outer-o.ensures in
    record { modulus = i.modulus; prime = i.prime; hx = o.γ_is.quotient.is_row; hy = i.he; sx = o.γ_is.size; sy = i.se; fits = o.γ_is.quotient.room _ _ o.γ_is.size i.se; hr = o.t_is.is_row }

pub inside-requires : goal.inside-requires
inside-requires c = let m = c.requires in
    let o = c.outer-o.ensures in
    let i = m.inp in
    record {
      modulus = i.modulus;
      prime = i.prime;
      ha = i.ha;
      hb = o.β_is.quotient.is_row;
      hc = o.γ_is.quotient.is_row;
      sa = i.sa;
      sb = o.β_is.size;
      sc = o.γ_is.size;
      hm = m.h0;
      hn = m.k0;
      hu = m.hu;
      sm = i.sizes 0;
      sn = i.sizes 3;
      su = i.sizes 6;
      by_u = i.by_u;
    }

pub returns-then-less_in-eq0-2 : goal.returns-then-less_in-eq0-2
returns-then-less_in-eq0-2 c = let i = c.requires.inp in
    let o = c.outer-o.ensures in
    let x = c.less_in.ensures in
    elim c.if-less_in-eq0.branch [
      | then-less_in-eq0 w ↦ let y = w.less_in-then-less_in-eq0.ensures in
          λ pr. carried (member_of pr i o x y (omega (arith, w.if-less_in-eq0.true)) (eqb-true _ _ (sym w.value-is ∙ c.if-less_in-eq0-2.true))) (member_in pr i o x y) (c.inside.ensures pr)
      | else-less_in-eq0 w ↦ absurd (w.if-less_in-eq0.false (eqb-true _ _ (sym w.value-is ∙ c.if-less_in-eq0-2.true)))
    ]

pub returns-else-less_in-eq0-2 : goal.returns-else-less_in-eq0-2
returns-else-less_in-eq0-2 c = let i = c.requires.inp in
    let o = c.outer-o.ensures in
    let x = c.less_in.ensures in
    elim c.if-less_in-eq0.branch [
      | then-less_in-eq0 w ↦ let y = w.less_in-then-less_in-eq0.ensures in
          λ pr. record { yes! = λ e. absurd (true≢false (sym e ∙ c.if-less_in-eq0-2.false)); no! = λ e m. true≢false (sym (eq-eqb _ _ (member_second pr i o x y m)) ∙ (sym w.value-is ∙ c.if-less_in-eq0-2.false)) }
      | else-less_in-eq0 w ↦ λ pr. record { yes! = λ e. absurd (true≢false (sym e ∙ c.if-less_in-eq0-2.false)); no! = λ e m. w.if-less_in-eq0.false (member_first pr i o x m) }
    ]
