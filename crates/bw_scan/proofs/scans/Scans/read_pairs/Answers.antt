use Rattle.std.proofs.Common.{ℕ, ◌-◌, ◌++◌, List, length, take, ap, sym, subst, ◌∙◌, arith}
use Rattle.std.specs.Prelude.{filter, ◌&&◌}
use Rattle.std.specs.List.{Contains}
use Rattle.std.specs.Option.{option_copied}
use Rattle.std.specs.FinMap.Entries.{where_key}
use Rattle.bw_key.specs.Order.{key_cmp}
use Rattle.bw_model.specs.Contents.{is_below_end, is_pair_in_range, pairs_of_range}
use Rattle.bw_model.specs.Values.{Pair}
use Rattle.bw_level.specs.Levels.{row}
use Rattle.bw_level.specs.Slots.{slot_at, has_key}
use Rattle.bw_level.specs.Scans.{IsLeafReplay, high_of}
use Rattle.bw_scan.specs.Replaying.{ScansView, in_order}
use Rattle.bw_look.specs.View.{TreeView, contents_at}
use Rattle.bw_scan.proofs.ReplayLemmas.{pairs_on_leaf}
use Rattle.bw_scan.proofs.scans.Scans.read_pairs.Goals as goal

pub returns-clause-read : goal.returns-clause-read
returns-clause-read c =
    let tree = c.self.inside.tree in
    let now = ap (λ (v : ScansView). v.tree) c.self.view_is in
    let read = c.args.read.now in
    let from = c.args.from.now in
    let to = option_copied c.args.to in
    let replay = c.in_ok-leaf.leaf.replay in
    let page = c.args.page in
    let left = c.args.scan.most - length read in
    let on_leaf : TreeView → ℕ → List Pair = λ t stamp. where_key key_cmp (has_key (slot_at t.slots page)) (pairs_of_range (contents_at t stamp) from to) in
    let leaf_pairs =
    pairs_on_leaf tree c.know_levels.ensures.lawful c.know_levels.ensures.distinct page replay from to (option_copied c.lower_end-end.result)
    (subst (λ (t : TreeView). Contains (row t.levels 0) page) (sym now) c.requires)
    (λ key. c.lower_end-end.ensures key ∙ ap (λ o. is_below_end o key && is_below_end to key) c.in_ok-leaf.ensures.leaf.end ∙ ap (λ (t : TreeView). is_below_end (high_of (slot_at t.slots page)) key && is_below_end to key) (sym now))
    c.add_pairs.ensures.sorted (subst (λ (t : TreeView). IsLeafReplay (slot_at t.slots page) replay) (sym now) c.in_ok-leaf.ensures.leaf.replay) in
    c.in_ok-add_pairs.ensures.added
    ∙ ap (λ n. read ++ take n (in_order c.args.scan.order (filter (is_pair_in_range from (option_copied c.lower_end-end.result)) replay.pairs))) (omega (arith, c.saturating_sub-left.ensures, c.len.ensures))
    ∙ ap (λ (l : List Pair). read ++ take left (in_order c.args.scan.order l)) (leaf_pairs ∙ ap (on_leaf tree) c.in_ok-leaf.ensures.stamp ∙ ap (λ (t : TreeView). on_leaf t c.args.scan.stamp) now)
