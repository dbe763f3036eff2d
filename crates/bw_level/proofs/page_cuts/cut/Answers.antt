use Rattle.std.proofs.Common.{◌≡◌, ◌∙◌, ◌<◌, [], ℕ, List, ap, drop, get_or, length, refl, subst, sym}
use Rattle.bw_key.specs.Order.{KeyBytes}
use Rattle.bw_page.specs.Pages.{first_key}
use Rattle.bw_page.specs.declared.pages.Page.{Page}
use Rattle.bw_page.specs.declared.pages.Page.TheVariants.{Inner, Leaf}
use Rattle.bw_page.proofs.Entries.{first_read}
use Rattle.bw_page.proofs.Search.{read_at}
use Rattle.bw_level.specs.Changes.{plain}
use Rattle.bw_level.specs.Splits.{slot_entries, slot_separator}
use Rattle.bw_level.proofs.page_cuts.cut.Goals as goal

-- the key that was read among a page's entries
separator_there : {X : Type 0} (base page : Page) (es : List (KeyBytes × X)) (keep : ℕ) (d : KeyBytes × X) (sep : KeyBytes) → base ≡ page → keep < slot_entries (plain base) →
    slot_entries (plain page) ≡ length es → slot_separator keep (plain page) ≡ first_key (drop keep es) → sep ≡ (get_or es keep d).0 → sep ≡ slot_separator keep (plain base)
separator_there base page es keep d sep is fewer many first read =
    let there : keep < length es = subst (λ n. keep < n) (ap (λ (p : Page). slot_entries (plain p)) is ∙ many) fewer in
    read
    ∙ first_read es keep (get_or es keep d) there (read_at es keep d there)
    ∙ sym first
    ∙ ap (λ (p : Page). slot_separator keep (plain p)) (sym is)

pub returns-in_ok-cut-in-Leaf-clause-separator : goal.returns-in_ok-cut-in-Leaf-clause-separator
returns-in_ok-cut-in-Leaf-clause-separator c =
    separator_there c.args.base.now (Leaf c.in-Leaf.leaf) c.in-Leaf.leaf.pairs c.args.keep ([], []) _ c.in-Leaf.is c.requires.fewer refl refl (c.in_ok-sep-in-Leaf.ensures.ok ([], []))

pub returns-in_ok-cut-in-Inner-clause-separator : goal.returns-in_ok-cut-in-Inner-clause-separator
returns-in_ok-cut-in-Inner-clause-separator c =
    separator_there c.args.base.now (Inner c.in-Inner.inner) c.in-Inner.inner.children c.args.keep ([], 0) _ c.in-Inner.is c.requires.fewer refl refl (c.in_ok-sep-in-Inner.ensures.ok ([], 0))
