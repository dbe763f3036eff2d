use Rattle.std.proofs.Common.{◌≡◌, ℕ, sym, subst, arith}
use Rattle.bw_level.specs.Levels.{AreLevels, IsHomeAt}
use Rattle.bw_level.proofs.AboveLemmas.{down_at, down_home, down_level, here_level, left_level, right_level, root_at}
use Rattle.bw_level.proofs.MarkLemmas.{mark, mark_stands}
use Rattle.bw_level.proofs.RouteLemmas.{turned_here}
use Rattle.bw_level.proofs.SearchLemmas.{begins, goes_down, goes_left, goes_right, held_there, linked_there, starts_from}
use Rattle.bw_look.specs.View.{TreeView}
use Rattle.bw_look.proofs.look.Look.on_level.Goals as goal

lawful_now : (r : ℕ) (v w : TreeView) → v ≡ w → AreLevels v.slots r v.levels → AreLevels w.slots r w.levels
lawful_now r v w e h = subst (λ (x : TreeView). AreLevels x.slots r x.levels) e h

pub loop-next-init : goal.loop-next-init
loop-next-init c =
    let lawful = lawful_now c.self.inside.root _ _ c.self.view_is c.self.invariant.now.lawful in
    record { searching = begins _ _ _ lawful c.args.target; high = omega (arith, root_at _ _ _ lawful, c.level.ensures, c.if-level.false) }

pub turn-requires-clause-there : goal.turn-requires-clause-there
turn-requires-clause-there c = held_there _ _ _ (lawful_now c.self.inside.root _ _ c.self.view_is c.self.invariant.now.lawful) c.args.target c.requires c.loop-next.page c.loop-next.invariant.searching

pub turn-requires-clause-starts : goal.turn-requires-clause-starts
turn-requires-clause-starts c = starts_from _ _ _ (lawful_now c.self.inside.root _ _ c.self.view_is c.self.invariant.now.lawful) c.args.target c.requires c.loop-next.page c.loop-next.invariant.searching

pub turn-requires-clause-linked : goal.turn-requires-clause-linked
turn-requires-clause-linked c = linked_there _ _ _ (lawful_now c.self.inside.root _ _ c.self.view_is c.self.invariant.now.lawful) c.args.target c.requires c.loop-next.page c.loop-next.invariant.searching

pub returns-in-Here : goal.returns-in-Here
returns-in-Here c = λ key stands.
    let lawful = lawful_now c.self.inside.root _ _ c.self.view_is c.self.invariant.now.lawful in
    let page = c.loop-next.page in
    let sought = c.loop-next.invariant.searching key stands in
    let turn = c.in-Here.ensures key (stands page) in
    let bottom : c.args.level ≡ 0 = omega (arith, c.loop-next.invariant.high, here_level _ _ _ lawful key page sought turn) in
    subst (λ n. IsHomeAt c.args.self.now.slots c.args.self.now.levels key n page) (sym bottom) (turned_here _ _ _ lawful key page sought turn)

pub loop-next-smaller-in-Right : goal.loop-next-smaller-in-Right
loop-next-smaller-in-Right c = (goes_right _ _ _ (lawful_now c.self.inside.root _ _ c.self.view_is c.self.invariant.now.lawful) c.args.target c.requires c.loop-next.page c.in-Right.next c.loop-next.invariant.searching c.in-Right.ensures).less

pub loop-next-preserved-in-Right : goal.loop-next-preserved-in-Right
loop-next-preserved-in-Right c =
    let lawful = lawful_now c.self.inside.root _ _ c.self.view_is c.self.invariant.now.lawful in
    let slots = c.args.self.now.slots in
    let page = c.loop-next.page in
    let key = mark slots c.args.target in
    let stands = mark_stands slots c.args.target c.requires in
    let searching = c.loop-next.invariant.searching in
    record {
      searching = (goes_right _ _ _ lawful c.args.target c.requires page c.in-Right.next searching c.in-Right.ensures).searching;
      high = omega (arith, c.loop-next.invariant.high, right_level _ _ _ lawful key page c.in-Right.next (searching key stands) (c.in-Right.ensures key (stands page)));
    }

pub loop-next-smaller-in-Left : goal.loop-next-smaller-in-Left
loop-next-smaller-in-Left c = (goes_left _ _ _ (lawful_now c.self.inside.root _ _ c.self.view_is c.self.invariant.now.lawful) c.args.target c.requires c.loop-next.page c.in-Left.next c.loop-next.invariant.searching c.in-Left.ensures).less

pub loop-next-preserved-in-Left : goal.loop-next-preserved-in-Left
loop-next-preserved-in-Left c =
    let lawful = lawful_now c.self.inside.root _ _ c.self.view_is c.self.invariant.now.lawful in
    let slots = c.args.self.now.slots in
    let page = c.loop-next.page in
    let key = mark slots c.args.target in
    let stands = mark_stands slots c.args.target c.requires in
    let searching = c.loop-next.invariant.searching in
    record {
      searching = (goes_left _ _ _ lawful c.args.target c.requires page c.in-Left.next searching c.in-Left.ensures).searching;
      high = omega (arith, c.loop-next.invariant.high, left_level _ _ _ lawful key page c.in-Left.next (searching key stands) (c.in-Left.ensures key (stands page)));
    }

pub returns-then-level-2 : goal.returns-then-level-2
returns-then-level-2 c = λ key stands.
    down_home _ _ _ (lawful_now c.self.inside.root _ _ c.self.view_is c.self.invariant.now.lawful) key c.loop-next.page c.in-Down.next c.args.level (c.loop-next.invariant.searching key stands)
    (c.in-Down.ensures key (stands c.loop-next.page)) (omega (arith, c.level-in-Down.ensures, c.if-level-2.true))

pub loop-next-smaller : goal.loop-next-smaller
loop-next-smaller c = (goes_down _ _ _ (lawful_now c.self.inside.root _ _ c.self.view_is c.self.invariant.now.lawful) c.args.target c.requires c.loop-next.page c.in-Down.next c.loop-next.invariant.searching c.in-Down.ensures).less

pub loop-next-preserved : goal.loop-next-preserved
loop-next-preserved c =
    let lawful = lawful_now c.self.inside.root _ _ c.self.view_is c.self.invariant.now.lawful in
    let slots = c.args.self.now.slots in
    let page = c.loop-next.page in
    let key = mark slots c.args.target in
    let stands = mark_stands slots c.args.target c.requires in
    let searching = c.loop-next.invariant.searching in
    let turn = c.in-Down.ensures key (stands page) in
    let below = down_level _ _ _ lawful key page c.in-Down.next (searching key stands) turn in
    let here = down_at _ _ _ lawful key page c.in-Down.next turn in
    record {
      searching = (goes_down _ _ _ lawful c.args.target c.requires page c.in-Down.next searching c.in-Down.ensures).searching;
      high = omega (arith, c.loop-next.invariant.high, below, here, c.level-in-Down.ensures, c.if-level-2.false);
    }
