use Rattle.std.proofs.Common.{◌<◌, [], arith, get_or, refl, true}
use Rattle.bw_model.specs.Values.{ValueBytes}
use Rattle.bw_page.proofs.Search.{place_there, read_at, reads_key}
use Rattle.bw_page.proofs.leaf_pairs.place_near.Goals as goal

pub returns-then-eq-clause-value : goal.returns-then-eq-clause-value
returns-then-eq-clause-value c =
    let pairs = c.args.pairs.now in
    let near = c.args.near in
    let there : near < _ = omega (arith, c.if-near-len.true, c.len.ensures) in
    place_there c.args.key.now pairs near (get_or pairs near ([], [])) c.requires there (read_at pairs near ([], []) there)
    (reads_key {X = ValueBytes} c.args.key.now (get_or pairs near ([], [])) _ _ _ true (c.key_at.ensures ([], [])) refl c.eq.ensures c.if-eq.true)
