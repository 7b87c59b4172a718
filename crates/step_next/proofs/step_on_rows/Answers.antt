-- `step_next::step_on_rows` meets its contract: the generators, and their reduction.
use mathlib.Core.Path.{refl, sym, ap, ◌∙◌}
use native.Mathlib.Omega.{arith}
use Rattle.num_mod.specs.Prepared.{PreparedOf, ready}
use Rattle.num_mod.specs.declared.Modulus.{Modulus}
use Prim.Native.Nat.{ℕ}
use Rattle.basis_field.proofs.Keeps.{modulus, room}
use Rattle.step_next.proofs.Made.{cut_fits, basis_by, based_by, reduced_in, advanced_of, advance_by, advanced_by}
use Rattle.step_next.proofs.step_on_rows.Goals as goal

-- its own number
own : {p : ℕ} {q : Modulus} → PreparedOf p q → PreparedOf q.p q
own e = record { is = refl; same = e.same ∙ ap ready (sym e.is); prepared = e.prepared }

pub prepare-q-requires : goal.prepare-q-requires
prepare-q-requires c = modulus c.requires.keeps

pub parted-k-requires : goal.parted-k-requires
parted-k-requires c = let e = c.prepare-q.ensures in
    record {
      r = _;
      w = _;
      on = record {
        inp = advance_by e c.requires;
        n_is = refl;
        modulus = own e;
        blank_x = record { a = refl; b = refl; c = refl };
        blank_y = record { a = refl; b = refl; c = refl };
        blank_d = refl;
      };
    }

pub overflow_add-top : goal.overflow_add-top
overflow_add-top c = omega (arith, room c.requires.keeps)

pub overflow_add-top-2 : goal.overflow_add-top-2
overflow_add-top-2 c = omega (arith, room c.requires.keeps)

pub overflow_sub-top : goal.overflow_sub-top
overflow_sub-top c = let k = c.parted-k.ensures in
    omega (arith, cut_fits (advance_by c.prepare-q.ensures c.requires) refl k.loaded k.divided.are)

pub reduced_basis-o-requires : goal.reduced_basis-o-requires
reduced_basis-o-requires c = let e = c.prepare-q.ensures in
    let k = c.parted-k.ensures in
    record { inp = basis_by (own e) (reduced_in (advance_by e c.requires) refl k.loaded k.divided.are); size = k.divided.size_u; size_1 = k.divided.x_size; size_2 = k.divided.y_size }

pub returns : goal.returns
returns c = let e = c.prepare-q.ensures in
    let k = c.parted-k.ensures in
    advanced_by e (advanced_of (advance_by e c.requires) refl k.loaded k.divided.are k.lm k.lu k.divided.was_m0 k.divided.was_u _ (based_by (own e) c.reduced_basis-o.ensures.based) k.degree)
