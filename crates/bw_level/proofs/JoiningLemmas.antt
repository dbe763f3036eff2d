-- Pages that are joined, and that lose a child.
use Rattle.std.proofs.Common.{◌≡◌, true, false, Some, refl, sym, ap, ◌∙◌}
use Rattle.bw_model.specs.Values.{ValueBytes}
use Rattle.bw_page.specs.Inners.{InnerView}
use Rattle.bw_page.specs.Leaves.{LeafView}
use Rattle.bw_page.specs.declared.pages.Page.{Page}
use Rattle.bw_page.specs.declared.pages.Page.TheVariants.{Leaf as LeafPage, Inner as InnerPage, Gone as GonePage}
use Rattle.bw_page.specs.declared.pages.RemovedPage.{RemovedPage}
use Rattle.bw_level.specs.Changes.{plain}
use Rattle.bw_level.specs.Merges.{AreNeighbours}
use Rattle.bw_level.specs.Slots.{Slot, PageState, Gone, Live, body_is_leaf, level_of}

one_state : {s t : PageState} → Live s ≡ Live t → s ≡ t
one_state e = cc

module _ (slot right : Slot) (s t : PageState) (is : slot ≡ Live s) (other : right ≡ Live t) (n : AreNeighbours slot right) where
  here : n.state ≡ s
  here = one_state (sym n.is ∙ is)

  there : n.other ≡ t
  there = one_state (sym n.other_is ∙ other)

  -- the first page ends where the second one begins
  pub meet : s.high ≡ Some t.low
  meet = ap (λ (x : PageState). x.high) (sym here) ∙ n.meet ∙ ap (λ (x : PageState). Some x.low) there

  -- both are of one kind and level
  pub one_kind : body_is_leaf s.body ≡ body_is_leaf t.body
  one_kind = ap (λ (x : PageState). body_is_leaf x.body) (sym here) ∙ n.kind ∙ ap (λ (x : PageState). body_is_leaf x.body) there

  pub one_level : level_of s.body ≡ level_of t.body
  one_level = ap (λ (x : PageState). level_of x.body) (sym here) ∙ n.level ∙ ap (λ (x : PageState). level_of x.body) there

no_page : {g : RemovedPage} {s : PageState} → Gone g ≡ Live s → ⊥
no_page e = cc

pub differ : true ≡ false → ⊥
differ e = cc

-- the right one of two neighbours isn't a removed page
pub no_removed : (slot : Slot) (right : Page) (removed : RemovedPage) → right ≡ GonePage removed → AreNeighbours slot (plain right) → ⊥
no_removed slot right removed is n = no_page (ap plain (sym is) ∙ n.other_is)

-- beside a leaf stands a leaf, which begins where it ends
module _ (leaf : LeafView ValueBytes) (right : Page) (n : AreNeighbours (plain (LeafPage leaf)) (plain right)) where
  pub leaf_meets : (other : LeafView ValueBytes) → right ≡ LeafPage other → leaf.high ≡ Some other.low
  leaf_meets other is = meet (plain (LeafPage leaf)) (plain right) _ _ refl (ap plain is) n

  pub no_inner : (inner : InnerView) → right ≡ InnerPage inner → ⊥
  no_inner inner is = differ (one_kind (plain (LeafPage leaf)) (plain right) _ _ refl (ap plain is) n)

-- and beside an inner page one of its level
module _ (inner : InnerView) (right : Page) (n : AreNeighbours (plain (InnerPage inner)) (plain right)) where
  pub inner_meets : (other : InnerView) → right ≡ InnerPage other → inner.high ≡ Some other.low
  inner_meets other is = meet (plain (InnerPage inner)) (plain right) _ _ refl (ap plain is) n

  pub inner_level : (other : InnerView) → right ≡ InnerPage other → inner.level ≡ other.level
  inner_level other is = one_level (plain (InnerPage inner)) (plain right) _ _ refl (ap plain is) n

  pub no_leaf : (leaf : LeafView ValueBytes) → right ≡ LeafPage leaf → ⊥
  no_leaf leaf is = differ (sym (one_kind (plain (InnerPage inner)) (plain right) _ _ refl (ap plain is) n))
