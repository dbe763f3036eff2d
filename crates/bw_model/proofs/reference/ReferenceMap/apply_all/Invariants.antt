use Rattle.std.proofs.Common.{◌≡◌, ◌++◌, drop}
use Rattle.bw_model.specs.Model.{replies_of, contents_after}
use Rattle.bw_model.proofs.reference.ReferenceMap.apply_all.Given as goal

abbrev pub invariant-loop-op : goal.invariant-loop-op
invariant-loop-op l = record {
  told : l.replies.items ++ replies_of (drop l.op-index l.ops) l.self ≡ replies_of l.ops l.fn.self;
  rest : contents_after (drop l.op-index l.ops) l.self ≡ contents_after l.ops l.fn.self;
}
