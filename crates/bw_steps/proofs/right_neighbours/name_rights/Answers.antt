use Rattle.std.proofs.Common.{refl, arith}
use Rattle.bw_look.proofs.UnnamedLemmas.{home_inner}
use Rattle.bw_steps.proofs.NamedNeighbours.{all_fit, all_rise, some_unnamed}
use Rattle.bw_steps.proofs.right_neighbours.name_rights.Goals as goal

pub returns-in_default-clause-ok : goal.returns-in_default-clause-ok
returns-in_default-clause-ok c = (refl, λ parent q sep u. c.in_default.ensures.level u.level (u.within, u.in_level))

pub name_all-requires-clause-page : goal.name_all-requires-clause-page
name_all-requires-clause-page c =
    let u = c.in-Some-unnamed_right.ensures in
    let first = c.in-Some-unnamed_right.first in
    home_inner c.args.tree.now first.sep.now _ first.parent u.home (omega arith)

pub name_all-requires-clause-rising : goal.name_all-requires-clause-rising
name_all-requires-clause-rising c =
    let tree = c.args.tree.now in
    all_rise tree tree.root c.know_levels.ensures.lawful c.know_entries.ensures c.in-Some-unnamed_right.first.parent c.args.page c.in_ok-entries.entries.items c.in_ok-entries.ensures.unnamed

pub name_all-requires-clause-fit : goal.name_all-requires-clause-fit
name_all-requires-clause-fit c =
    let tree = c.args.tree.now in
    all_fit tree tree.root c.know_levels.ensures.lawful c.know_entries.ensures c.in-Some-unnamed_right.first.parent c.args.page c.in_ok-entries.entries.items c.in_ok-entries.ensures.unnamed

pub returns-clause-ok : goal.returns-clause-ok
returns-clause-ok c =
    let first = c.in-Some-unnamed_right.first in
    record {
      entries = c.in_ok-entries.entries.items;
      some = some_unnamed c.args.tree.now first.parent c.args.page c.in_ok-entries.entries.items first.sep.now first.page c.in_ok-entries.ensures c.in-Some-unnamed_right.ensures;
      unnamed = c.in_ok-entries.ensures;
      named = c.in_ok-name_all.ensures.ok;
    }
