use Rattle.std.proofs.Common.{inl, inr, ◌⊎◌, ◌≡◌, true, false, ap, sym, ◌∙◌}
use Rattle.bw_model.specs.Values.{ValueBytes}
use Rattle.bw_page.specs.Leaves.{LeafView}
use Rattle.bw_page.specs.declared.pages.RemovedPage.{RemovedPage}
use Rattle.bw_page.specs.declared.pages.Page.TheVariants.{Leaf as LeafPage, Gone as GonePage}
use Rattle.bw_level.specs.Changes.{plain}
use Rattle.bw_level.specs.Searches.{plain_inner}
use Rattle.bw_level.specs.Turns.{plain_at}
use Rattle.bw_chain.proofs.ChainLemmas.{on_base}
use Rattle.bw_level.proofs.InnerLemmas.{inner_is, none_mapped}
use Rattle.bw_chain.proofs.chains.Chains.inner.Goals as goal

pub returns-in_default-clause-some : goal.returns-in_default-clause-some
returns-in_default-clause-some c none inner is =
    inner_is inner (ap plain_at (sym c.in_default.is) ∙ c.base.ensures ∙ sym (on_base c.args.self.now.bases c.args.self.now.records c.args.head c.requires none) ∙ is)

pub returns-in-Inner-clause-page : goal.returns-in-Inner-clause-page
returns-in-Inner-clause-page c =
    on_base c.args.self.now.bases c.args.self.now.records c.args.head c.requires (sym c.record.ensures ∙ none_mapped _ c.record.result c.if-is_some.ensures)
    ∙ sym c.base.ensures
    ∙ ap plain_at c.in-Some.is
    ∙ ap plain c.in-Inner.is

pub returns-in-Leaf-clause-some : goal.returns-in-Leaf-clause-some
returns-in-Leaf-clause-some c none inner is = by c.in-Leaf.is
  where
    there : plain c.in-Some.base.now ≡ plain_inner inner
    there = ap plain_at (sym c.in-Some.is) ∙ c.base.ensures ∙ sym (on_base c.args.self.now.bases c.args.self.now.records c.args.head c.requires none) ∙ is

    by : ((leaf : LeafView ValueBytes) × (c.in-Some.base.now ≡ LeafPage leaf)) ⊎ ((removed : RemovedPage) × (c.in-Some.base.now ≡ GonePage removed)) → false ≡ true
    by (inl leaf) = inner_is inner (sym (ap plain leaf.1) ∙ there)
    by (inr gone) = inner_is inner (sym (ap plain gone.1) ∙ there)
