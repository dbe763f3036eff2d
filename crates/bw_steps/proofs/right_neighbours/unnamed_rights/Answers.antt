use Rattle.std.proofs.Common.{◌∙◌, ℕ, Option, sym, ap, subst}
use Rattle.std.specs.Prelude.{MatchOption}
use Rattle.bw_key.specs.Order.{KeyBytes}
use Rattle.bw_level.specs.Searches.{IsInLevels}
use Rattle.bw_look.specs.Unnamed.{IsUnnamed}
use Rattle.bw_look.specs.View.{TreeView}
use Rattle.bw_steps.specs.Naming.{AreUnnamed, HasNoUnnamedOn, last_page}
use Rattle.bw_steps.proofs.NamedNeighbours.{last_in_levels, last_more, more_unnamed, walks_less}
use Rattle.bw_steps.proofs.right_neighbours.unnamed_rights.Goals as goal

abbrev Outcome : TreeView → ℕ → ℕ → Option (KeyBytes × ℕ) → Type 0
Outcome tree page parent entry = MatchOption entry (HasNoUnnamedOn tree page parent) (λ e. IsUnnamed tree page parent e.0 e.1)

pub unnamed_entry-requires : goal.unnamed_entry-requires
unnamed_entry-requires c =
    let tree = c.args.tree.now in
    let i = c.loop-entries.invariant in
    subst (IsInLevels tree.levels) (sym i.last) (last_in_levels tree tree.root c.know_levels.ensures.lawful c.know_entries.ensures c.args.parent c.args.page c.loop-entries.entries.items c.requires i.unnamed)

pub loop-entries-init : goal.loop-entries-init
loop-entries-init c = record {
  unnamed = subst (AreUnnamed c.args.tree.now c.args.page c.args.parent) (sym c.new-entries.ensures.items) tt;
  last = ap (last_page c.args.page) (sym c.new-entries.ensures.items);
}

pub loop-entries-smaller : goal.loop-entries-smaller
loop-entries-smaller c =
    let tree = c.args.tree.now in
    walks_less tree tree.root c.know_levels.ensures.lawful c.know_entries.ensures c.args.parent c.loop-entries.last c.in-Some.entry.0 c.in-Some.entry.1
    (subst (Outcome tree c.loop-entries.last c.args.parent) c.in-Some.is c.in_ok-entry.ensures)

pub loop-entries-preserved : goal.loop-entries-preserved
loop-entries-preserved c =
    let tree = c.args.tree.now in
    let parent = c.args.parent in
    let entries = c.loop-entries.entries.items in
    let i = c.loop-entries.invariant in
    let one = subst (Outcome tree c.loop-entries.last parent) c.in-Some.is c.in_ok-entry.ensures in
    record {
      unnamed = subst (AreUnnamed tree c.args.page parent) (sym c.in_ok-push.ensures.items)
          (more_unnamed tree parent c.args.page entries c.in-Some.entry i.unnamed (subst (λ p. IsUnnamed tree p parent c.in-Some.entry.0 c.in-Some.entry.1) i.last one));
      last = sym (ap (last_page c.args.page) c.in_ok-push.ensures.items ∙ last_more c.args.page entries c.in-Some.entry);
    }

pub returns : goal.returns
returns c =
    let tree = c.args.tree.now in
    let i = c.loop-entries.invariant in
    record {
      unnamed = i.unnamed;
      all = subst (λ p. HasNoUnnamedOn tree p c.args.parent) i.last (subst (Outcome tree c.loop-entries.last c.args.parent) c.in_default.is c.in_ok-entry.ensures);
    }
