use Rattle.bw_page.proofs.Search.{ends_in, is_before}
use Rattle.bw_page.proofs.children.Children.place_in.Goals as goal

pub returns-clause-parts : goal.returns-clause-parts
returns-clause-parts c =
    ends_in is_before c.self.inside.entries c.args.self.now c.bytes.result.now c.args.key.now c.args.range.start c.args.range.end c.place.result c.self.view_is c.bytes.ensures.value c.place.ensures.parts
