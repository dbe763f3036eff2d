use Rattle.bw_page.proofs.Search.{ends_in}
use Rattle.bw_page.proofs.Separators.{isnt_above}
use Rattle.bw_page.proofs.children.Children.place_behind.Goals as goal

pub returns-clause-parts : goal.returns-clause-parts
returns-clause-parts c =
    ends_in isnt_above c.self.inside.entries c.args.self.now c.bytes.result.now c.args.key.now c.args.range.start c.args.range.end c.place_behind.result c.self.view_is c.bytes.ensures.value c.place_behind.ensures.parts
