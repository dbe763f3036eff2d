use Rattle.std.proofs.Common.{◌-◌, ◌++◌, List, length, take, ap, sym, subst, ◌∙◌, arith}
use Rattle.std.specs.Prelude.{filter, ◌&&◌}
use Rattle.std.specs.Option.{option_copied}
use Rattle.bw_model.specs.Contents.{is_below_end, is_pair_in_range}
use Rattle.bw_model.specs.Values.{Pair}
use Rattle.bw_level.specs.Scans.{Reaches}
use Rattle.bw_level.specs.Slots.{slot_at}
use Rattle.bw_scan.specs.Cursors.{IsLeafOf, IsLeafRead}
use Rattle.bw_scan.specs.Replaying.{EndsBefore, ScansView, pairs_on}
use Rattle.bw_scan.proofs.CursorLemmas.{ends_before}
use Rattle.bw_scan.proofs.ReplayLemmas.{pairs_on_leaf}
use Rattle.bw_scan.proofs.cursors.LeafCursor.read_pairs.Goals as goal
use Rattle.bw_scan.proofs.cursors.LeafCursor.read_pairs.Goals.{then-reaches, else-reaches}

pub returns-clause-read : goal.returns-clause-read
returns-clause-read c =
    let tree = c.self.inside.tree in
    let read = c.args.read.now in
    let at = c.args.at.now in
    let to = option_copied c.args.to in
    let page = c.in_ok-page.page in
    let leaf = c.in_ok-page.leaf in
    let high = c.lower_end-high in
    let left = c.args.most - length read in
    let slot = slot_at tree.slots page in
    let of : IsLeafOf tree at (page, leaf) = subst (λ (v : ScansView). IsLeafOf v.tree at (page, leaf)) (sym c.self.view_is) c.in_ok-page.ensures.leaf in
    let here =
    pairs_on_leaf tree c.know_levels.ensures.lawful c.know_levels.ensures.distinct page leaf.replay at to (option_copied high.result) of.home.reached.in_level
    (λ key. high.ensures key ∙ ap (λ o. is_below_end o key && is_below_end to key) of.read.end) c.add_pairs.ensures.sorted of.read.replay in
    let ends : EndsBefore slot to c.if-reaches.end =
    elim c.if-reaches.branch as (λ b. EndsBefore slot to c.if-reaches.end) [
      | then-reaches w ↦ subst (EndsBefore slot to) (sym w.end-is) (subst (λ o. Reaches o to) of.read.end (c.reaches.ensures.reached w.if-reaches.true))
      | else-reaches w ↦ subst (EndsBefore slot to) (sym w.end-is) (ends_before slot to leaf.end of.read.end (c.reaches.ensures.missed w.if-reaches.false))
    ] in
    subst (λ (v : ScansView). IsLeafRead v.tree c.args.stamp c.args.most at to read c.extend.new.self c.if-reaches.end) c.self.view_is
    (record {
      page = page;
      home = of.home;
      pairs =
          c.in_ok-extend.ensures.ok
          ∙ ap (λ (l : List Pair). read ++ l)
          (c.all.ensures ∙ c.in_ok-add_pairs.ensures.added
          ∙ ap (λ (l : List Pair). l ++ take c.saturating_sub-left.result (filter (is_pair_in_range at (option_copied high.result)) leaf.replay.pairs)) c.truncate.ensures)
          ∙ ap (λ n. read ++ take n (filter (is_pair_in_range at (option_copied high.result)) leaf.replay.pairs)) (omega (arith, c.saturating_sub-left.ensures, c.len.ensures))
          ∙ ap (λ (l : List Pair). read ++ take left l) (here ∙ ap (λ n. pairs_on tree n at to page) c.in_ok-page.ensures.stamp);
      ends = ends;
    })
