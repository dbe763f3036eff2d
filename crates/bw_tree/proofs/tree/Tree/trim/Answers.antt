use Rattle.bw_tree.proofs.TrimLemmas.{trim_on}
use Rattle.bw_tree.proofs.tree.Tree.trim.Goals as goal

pub invariant_of-self : goal.invariant_of-self
invariant_of-self c =
    (trim_on c.self.inside.heads.items c.self.inside.chains.bases c.self.inside.chains.records c.self.inside.root c.self.inside.next c.self.inside.staged c.args.self.now c.self.view_is c.requires.none c.self.invariant
    c.trim_bases-count.result c.trim_bases-count.ensures.vacant c.trim_bases-count.ensures.last c.truncate_words.new.heads.items c.trim_bases-count.new.self.bases c.trim_bases-count.new.self.records c.truncate_words.ensures c.trim_bases-count.ensures.bases c.trim_bases-count.ensures.records).0

pub returns : goal.returns
returns c =
    (trim_on c.self.inside.heads.items c.self.inside.chains.bases c.self.inside.chains.records c.self.inside.root c.self.inside.next c.self.inside.staged c.args.self.now c.self.view_is c.requires.none c.self.invariant
    c.trim_bases-count.result c.trim_bases-count.ensures.vacant c.trim_bases-count.ensures.last c.truncate_words.new.heads.items c.trim_bases-count.new.self.bases c.trim_bases-count.new.self.records c.truncate_words.ensures c.trim_bases-count.ensures.bases c.trim_bases-count.ensures.records).1
