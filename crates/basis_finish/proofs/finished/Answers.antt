-- `basis_finish::finished` meets its contract: the lemmas of Based.
use Rattle.basis_finish.proofs.Based.{based_scales, based_fill, based, left, left_mx, left_nx}
use Rattle.basis_finish.proofs.finished.Goals as goal

pub factors_of-k-requires : goal.factors_of-k-requires
factors_of-k-requires c = based_scales c.requires.by.inp c.requires.by.size c.requires.from c.lead_of-b.ensures

pub filled-requires : goal.filled-requires
filled-requires c = let i = c.requires in
    based_fill i.by.inp i.by.size i.from c.lead_of-b.ensures c.factors_of-k.ensures c.scale_in.ensures i.by.size_1 i.by.size_2
    c.scale_in-2.ensures c.scale_in-3.ensures

pub returns : goal.returns
returns c = let i = c.requires in
    record {
      each = λ g s h. based g s h c.lead_of-b.ensures c.factors_of-k.ensures c.scale_in.ensures i.by.size_1 i.by.size_2
          c.scale_in-2.ensures c.scale_in-3.ensures c.filled.ensures;
      left = left i.by.inp i.by.size i.from c.lead_of-b.ensures c.factors_of-k.ensures c.scale_in.ensures i.by.size_1 i.by.size_2
          c.scale_in-2.ensures c.scale_in-3.ensures c.filled.ensures;
      left_mx = left_mx i.by.inp i.by.size i.from c.lead_of-b.ensures c.factors_of-k.ensures c.scale_in.ensures i.by.size_1 i.by.size_2
          c.scale_in-2.ensures c.scale_in-3.ensures c.filled.ensures;
      left_nx = left_nx i.by.inp i.by.size i.from c.lead_of-b.ensures c.factors_of-k.ensures c.scale_in.ensures i.by.size_1 i.by.size_2
          c.scale_in-2.ensures c.scale_in-3.ensures c.filled.ensures;
    }
