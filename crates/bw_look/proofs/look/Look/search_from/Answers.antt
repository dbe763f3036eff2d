use Rattle.std.proofs.Common.{◌≡◌, ℕ, sym, subst, ap, length, arith}
use Rattle.std.proofs.lemmas.List.{length-map}
use Rattle.bw_chain.specs.Chains.{slot_of_word}
use Rattle.bw_level.specs.Levels.{AreLevels}
use Rattle.bw_level.specs.Searches.{IsSearching}
use Rattle.bw_level.proofs.SearchLemmas.{ends_home, goes_down, goes_left, goes_right, held_there, linked_there, starts_from}
use Rattle.bw_look.specs.View.{TreeView}
use Rattle.bw_look.proofs.RoutingLemmas.{begins_at, inner_above}
use Rattle.bw_look.proofs.look.Look.search_from.Goals as goal

lawful_now : (r : ℕ) (v w : TreeView) → v ≡ w → AreLevels v.slots r v.levels → AreLevels w.slots r w.levels
lawful_now r v w e h = subst (λ (x : TreeView). AreLevels x.slots r x.levels) e h

pub loop-next-init : goal.loop-next-init
loop-next-init c = record {
  searching =
      subst (IsSearching c.args.self.now.slots c.args.self.now.levels c.args.target) (sym c.unwrap_or-page.ensures)
      (begins_at _ _ _ (lawful_now c.self.inside.root _ _ c.self.view_is c.self.invariant.now.lawful) c.args.target c.args.start c.requires.begins);
  above = tt;
}

pub turn-requires-clause-there : goal.turn-requires-clause-there
turn-requires-clause-there c = held_there _ _ _ (lawful_now c.self.inside.root _ _ c.self.view_is c.self.invariant.now.lawful) c.args.target c.requires.starts c.loop-next.page c.loop-next.invariant.searching

pub turn-requires-clause-starts : goal.turn-requires-clause-starts
turn-requires-clause-starts c = starts_from _ _ _ (lawful_now c.self.inside.root _ _ c.self.view_is c.self.invariant.now.lawful) c.args.target c.requires.starts c.loop-next.page c.loop-next.invariant.searching

pub turn-requires-clause-linked : goal.turn-requires-clause-linked
turn-requires-clause-linked c = linked_there _ _ _ (lawful_now c.self.inside.root _ _ c.self.view_is c.self.invariant.now.lawful) c.args.target c.requires.starts c.loop-next.page c.loop-next.invariant.searching

pub returns-in-Here-clause-homes : goal.returns-in-Here-clause-homes
returns-in-Here-clause-homes c = ends_home _ _ _ (lawful_now c.self.inside.root _ _ c.self.view_is c.self.invariant.now.lawful) c.args.target c.loop-next.page c.loop-next.invariant.searching c.in-Here.ensures

pub returns-in-Here-clause-there : goal.returns-in-Here-clause-there
returns-in-Here-clause-there c =
    let within = held_there _ _ _ (lawful_now c.self.inside.root _ _ c.self.view_is c.self.invariant.now.lawful) c.args.target c.requires.starts c.loop-next.page c.loop-next.invariant.searching in
    omega (arith, within, ap (λ (v : TreeView). length v.slots) c.self.view_is, ap (λ (v : TreeView). length v.heads) c.self.view_is, length-map c.self.inside.heads.now.items (slot_of_word c.self.inside.chains.now.bases c.self.inside.chains.now.records))

pub loop-next-smaller-in-Right : goal.loop-next-smaller-in-Right
loop-next-smaller-in-Right c = (goes_right _ _ _ (lawful_now c.self.inside.root _ _ c.self.view_is c.self.invariant.now.lawful) c.args.target c.requires.starts c.loop-next.page c.in-Right.next c.loop-next.invariant.searching c.in-Right.ensures).less

pub loop-next-preserved-in-Right : goal.loop-next-preserved-in-Right
loop-next-preserved-in-Right c = record {
  searching = (goes_right _ _ _ (lawful_now c.self.inside.root _ _ c.self.view_is c.self.invariant.now.lawful) c.args.target c.requires.starts c.loop-next.page c.in-Right.next c.loop-next.invariant.searching c.in-Right.ensures).searching;
  above = c.loop-next.invariant.above;
}

pub loop-next-smaller-in-Down : goal.loop-next-smaller-in-Down
loop-next-smaller-in-Down c = (goes_down _ _ _ (lawful_now c.self.inside.root _ _ c.self.view_is c.self.invariant.now.lawful) c.args.target c.requires.starts c.loop-next.page c.in-Down.next c.loop-next.invariant.searching c.in-Down.ensures).less

pub loop-next-preserved-in-Down : goal.loop-next-preserved-in-Down
loop-next-preserved-in-Down c = record {
  searching = (goes_down _ _ _ (lawful_now c.self.inside.root _ _ c.self.view_is c.self.invariant.now.lawful) c.args.target c.requires.starts c.loop-next.page c.in-Down.next c.loop-next.invariant.searching c.in-Down.ensures).searching;
  above = inner_above c.args.self.now _ c.args.target (lawful_now c.self.inside.root _ _ c.self.view_is c.self.invariant.now.lawful) c.requires.starts c.loop-next.page c.in-Down.next c.loop-next.invariant.searching c.in-Down.ensures;
}

pub loop-next-smaller : goal.loop-next-smaller
loop-next-smaller c = (goes_left _ _ _ (lawful_now c.self.inside.root _ _ c.self.view_is c.self.invariant.now.lawful) c.args.target c.requires.starts c.loop-next.page c.in-Left.next c.loop-next.invariant.searching c.in-Left.ensures).less

pub loop-next-preserved : goal.loop-next-preserved
loop-next-preserved c = record {
  searching = (goes_left _ _ _ (lawful_now c.self.inside.root _ _ c.self.view_is c.self.invariant.now.lawful) c.args.target c.requires.starts c.loop-next.page c.in-Left.next c.loop-next.invariant.searching c.in-Left.ensures).searching;
  above = c.loop-next.invariant.above;
}
