use Rattle.std.proofs.Common.{sym, ◌∙◌}
use Rattle.bw_look.proofs.ShapeLemmas.{all_listed, begins_listing, lists_on}
use Rattle.bw_look.proofs.look.Look.level_pages.Goals as goal

pub loop-pages-init : goal.loop-pages-init
loop-pages-init c =
    let tree = c.args.self.now in
    begins_listing tree tree.root c.know_levels.ensures.lawful c.args.level c.requires c.new-pages.result.items c.first_page-page.result c.new-pages.ensures.items c.first_page-page.ensures

pub returns-in_default : goal.returns-in_default
returns-in_default c =
    let tree = c.args.self.now in
    all_listed tree tree.root c.know_levels.ensures.lawful c.args.level c.requires c.loop-pages.pages.items c.push.new.self.items c.loop-pages.page c.loop-pages.invariant (sym c.in_default.is ∙ c.right_of.ensures) c.in_ok-push.ensures.items

pub loop-pages-smaller : goal.loop-pages-smaller
loop-pages-smaller c =
    let tree = c.args.self.now in
    (lists_on tree tree.root c.know_levels.ensures.lawful c.args.level c.requires c.loop-pages.pages.items c.push.new.self.items c.loop-pages.page c.in-Some.next c.loop-pages.invariant (sym c.in-Some.ensures) c.in_ok-push.ensures.items).less

pub loop-pages-preserved : goal.loop-pages-preserved
loop-pages-preserved c =
    let tree = c.args.self.now in
    (lists_on tree tree.root c.know_levels.ensures.lawful c.args.level c.requires c.loop-pages.pages.items c.push.new.self.items c.loop-pages.page c.in-Some.next c.loop-pages.invariant (sym c.in-Some.ensures) c.in_ok-push.ensures.items).listed
