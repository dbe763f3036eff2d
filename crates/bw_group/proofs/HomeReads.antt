-- What the homes of a batch tell of an operation's key.
use Rattle.std.proofs.Common.{◌≡◌, ℕ, List, Some, sym, ap, ◌∙◌, subst}
use Rattle.std.specs.Prelude.{slice_get}
use Rattle.std.specs.List.{AllByRecursion}
use Rattle.bw_model.specs.declared.operations.Op.{Op}
use Rattle.bw_tree.specs.Levels.{IsOneHome}
use Rattle.bw_look.specs.View.{TreeView}
use Rattle.bw_group.specs.Homes.{AreHomes, HasPageAt, HomesView, IsPageAt}
use Rattle.bw_group.specs.Points.{Entry, IsEntryOf}
use Rattle.bw_group.proofs.ListParts.{all_same}
use Rattle.bw_group.proofs.HomeRuns.{all_both}

same_value : {m n : ℕ} → Some m ≡ Some n → m ≡ n
same_value e = cc

module _ (tree : TreeView) (ops : List Op) (homes : HomesView) (are : AreHomes tree ops homes) where
  -- a page is listed for each operation that has a key
  pub pages_listed : (es : List Entry) → AllByRecursion (IsEntryOf ops) es → AllByRecursion (λ e. HasPageAt homes e.1) es
  pages_listed = all_same (IsEntryOf ops) (λ e. HasPageAt homes e.1)
      (λ e entry. let h = are.each e.1 e.0 entry in (h.home.page, record { number = h.number; at = h.at; is = h.home.is }))

  -- and it is the key's home
  pub page_is_home : (page : ℕ) (e : Entry) → IsEntryOf ops e → IsPageAt homes page e.1 → IsOneHome tree.slots tree.levels e.0 page
  page_is_home page e entry at =
      let h = are.each e.1 e.0 entry in
      let number : h.number ≡ at.number = same_value (sym h.at ∙ at.at) in
      let same : h.home.page ≡ page = same_value (sym h.home.is ∙ ap (slice_get homes.pages) number ∙ at.is) in
      subst (IsOneHome tree.slots tree.levels e.0) same h.home.one

  pub run_at_home : (page : ℕ) (es : List Entry) → AllByRecursion (IsEntryOf ops) es → AllByRecursion (λ e. IsPageAt homes page e.1) es → AllByRecursion (λ e. IsOneHome tree.slots tree.levels e.0 page) es
  run_at_home page = all_both (IsEntryOf ops) (λ e. IsPageAt homes page e.1) (λ e. IsOneHome tree.slots tree.levels e.0 page) (page_is_home page)
