use Rattle.bw_page.proofs.Search.{parted, parts_at}
use Rattle.bw_page.proofs.leaf_pairs.place.Goals as goal

pub returns-clause-value : goal.returns-clause-value
returns-clause-value c =
    let key = c.args.key.now in
    let pairs = c.args.pairs.now in
    parts_at key pairs c.place.result c.requires c.place.ensures.bound (c.place.ensures.parts (parted key pairs c.requires))
