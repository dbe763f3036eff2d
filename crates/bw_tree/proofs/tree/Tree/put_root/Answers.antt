use Rattle.std.proofs.Common.{List, ℕ, ap, ◌∙◌}
use Rattle.bw_chain.specs.Placing.{put_at}
use Rattle.bw_tree.proofs.IdentifierLemmas.{unused_on}
use Rattle.bw_tree.proofs.TreeRootLemmas.{root_on}
use Rattle.bw_tree.proofs.tree.Tree.put_root.Goals as goal

pub invariant_of-self-2 : goal.invariant_of-self-2
invariant_of-self-2 c =
    (root_on c.self.inside.heads.items c.self.inside.chains.bases c.self.inside.chains.records c.self.inside.root c.self.inside.next c.self.inside.staged c.args.self.now c.self.view_is c.requires.none c.self.invariant
    c.args.page c.requires.over c.in_ok-to.to (unused_on c.self.inside.heads.items c.self.inside.chains.bases c.self.inside.chains.records c.self.inside.root c.self.inside.next c.self.inside.staged c.args.self.now c.self.view_is c.self.invariant c.in_ok-to.to c.in_ok-to.ensures.place c.in_ok-to.ensures.vacant) c.in_ok-to.ensures.few
    c.put_own.new.heads.items c.add_base.new.self.bases c.add_base.new.self.records
    (c.put_own.ensures ∙ ap (λ (h : List ℕ). put_at h c.in_ok-to.to c.in_ok-to.to) c.in_ok-reserve.ensures.items) c.in_ok-add_base.ensures.ok c.in_ok-add_base.ensures.records).0

pub returns-clause-ok : goal.returns-clause-ok
returns-clause-ok c =
    (root_on c.self.inside.heads.items c.self.inside.chains.bases c.self.inside.chains.records c.self.inside.root c.self.inside.next c.self.inside.staged c.args.self.now c.self.view_is c.requires.none c.self.invariant
    c.args.page c.requires.over c.in_ok-to.to (unused_on c.self.inside.heads.items c.self.inside.chains.bases c.self.inside.chains.records c.self.inside.root c.self.inside.next c.self.inside.staged c.args.self.now c.self.view_is c.self.invariant c.in_ok-to.to c.in_ok-to.ensures.place c.in_ok-to.ensures.vacant) c.in_ok-to.ensures.few
    c.put_own.new.heads.items c.add_base.new.self.bases c.add_base.new.self.records
    (c.put_own.ensures ∙ ap (λ (h : List ℕ). put_at h c.in_ok-to.to c.in_ok-to.to) c.in_ok-reserve.ensures.items) c.in_ok-add_base.ensures.ok c.in_ok-add_base.ensures.records).1
