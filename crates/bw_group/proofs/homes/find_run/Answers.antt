use Rattle.std.proofs.Common.{ap, ◌∙◌, ◌-◌, ◌<◌, ◌≡◌, ℕ, length, false, subst, Option}
use Rattle.bw_tree.specs.Levels.{IsHome}
use Rattle.bw_tree.specs.Scans.{high_of}
use Rattle.bw_tree.specs.Slots.{slot_at}
use Rattle.bw_look.specs.View.{TreeView}
use Rattle.bw_key.specs.Order.{KeyBytes}
use Rattle.bw_model.specs.Contents.{is_below_end}
use Rattle.bw_group.specs.Points.{key_at}
use Rattle.bw_group.proofs.HomeRuns.{run_homes}
use Rattle.bw_group.proofs.homes.find_run.Goals as goal

at_home : (tree routed : TreeView) (key : KeyBytes) (page : ℕ) → routed ≡ tree → IsHome routed.slots routed.levels key page → IsHome tree.slots tree.levels key page
at_home tree routed key page is home = subst (λ (t : TreeView). IsHome t.slots t.levels key page) is home

-- the end that the search tells is that of the leaf
end_is : (tree routed : TreeView) (page : ℕ) (told end : Option KeyBytes) → routed ≡ tree → end ≡ told → told ≡ high_of (slot_at routed.slots page) → end ≡ high_of (slot_at tree.slots page)
end_is tree routed page told end is read searched = read ∙ searched ∙ ap (λ (t : TreeView). high_of (slot_at t.slots page)) is

pub returns-clause-found : goal.returns-clause-found
returns-clause-found c =
    let tree = c.args.tree.now in
    let routed = c.args.routes.now.tree in
    let page = c.route-page.result in
    let end = c.run_end-end in
    let home = at_home tree routed _ _ c.requires.tree c.route-page.ensures.home in
    let told = end_is tree routed page _ _ c.requires.tree c.end.ensures c.route-page.ensures.end in
    record {
      there = subst (λ (t : TreeView). page < length t.heads) c.requires.tree c.route-page.ensures.there;
      leaf = home.reached.in_level;
      more = end.ensures.more;
      bound = end.ensures.bound;
      homes = run_homes tree.slots tree.levels c.args.points.now c.args.start (end.result - c.args.start) c.index-points-start.result page _ c.requires.sorted c.requires.start
          home c.know_homes.ensures.one told end.ensures.below;
      whole = λ lt d. subst (λ (o : Option KeyBytes). is_below_end o (key_at c.args.points.now end.result d) ≡ false) told (end.ensures.whole lt d);
    }
