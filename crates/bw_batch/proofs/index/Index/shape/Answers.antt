use Rattle.std.proofs.Common.{refl}
use Rattle.std.proofs.lemmas.Result.{IfOk-weaker}
use Rattle.bw_batch.proofs.index.Index.shape.Goals as goal

pub returns-clause-whole : goal.returns-clause-whole
returns-clause-whole c =
    rw (← c.self.view_is) (IfOk-weaker c.shape.result _ _
    (λ shape is. (
      c.self.inside.tree,
      record {
        lawful = c.know_levels.ensures.lawful;
        distinct = c.know_levels.ensures.distinct;
        contents = refl;
        stamp = refl;
        heads = refl;
        records = refl;
        pages = refl;
        staged = c.self.invariant.0;
        within = c.self.invariant.1;
      },
      is,
    ))
    c.shape.ensures)
