use Rattle.std.proofs.Common.{◌∙◌, ap, sym, take}
use Rattle.bw_page.proofs.Ranges.{upto_place}
use Rattle.bw_page.proofs.children.Children.keep_below.Goals as goal

pub returns : goal.returns
returns c =
    let key = c.args.key.now in
    let all = c.args.self.now in
    c.truncate.ensures ∙ ap (take c.place-end.result) c.self.view_is ∙ ap (λ n. take n all) c.place-end.ensures.value ∙ sym (upto_place key all c.requires)
