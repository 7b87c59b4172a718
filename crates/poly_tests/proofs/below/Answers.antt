-- `poly_tests::below` meets its contract.
use Rattle.std.proofs.Common.{rules, ◌≡◌, true, ℕ, ◌<◌, length, get_or}
use Rattle.poly_tests.proofs.Lists.{below_test}
use Rattle.poly_tests.proofs.below.Goals as goal

pub returns : goal.returns
returns c =
    let u : c.all.result ≡ true → (k : ℕ) → k < length c.args.rows.now → get_or c.args.rows.now k 0 < c.args.p = search rules in
    let v : ((k : ℕ) → k < length c.args.rows.now → get_or c.args.rows.now k 0 < c.args.p) → c.all.result ≡ true = search rules in
    below_test c.args.rows.now c.requires u v
