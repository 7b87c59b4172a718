-- `poly_divide::divide_in` meets its contract: what is left where the quotient times b is taken off.
use Rattle.poly_rows.proofs.Division.{divided}
use Rattle.poly_divide.proofs.divide_in.Goals as goal

pub less_in-k-requires : goal.less_in-k-requires
less_in-k-requires c = let i = c.requires in
    let o = c.quotient_in-l.ensures in
    record { modulus = i.modulus; prime = i.inp.prime; hx = o.quotient.is_row; hy = i.inp.hb; sx = o.size; sy = i.sb; fits = o.quotient.room _ _ o.size i.sb; hr = i.inp.ha }

pub returns : goal.returns
returns c = let o = c.quotient_in-l.ensures in
    let l = c.less_in-k.ensures in
    record { divided = divided _ _ _ _ _ o.quotient l.is_row l.law; sq = o.size; sr = l.size }
