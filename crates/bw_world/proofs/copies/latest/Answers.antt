use Rattle.std.proofs.Common.{rules, arith, ◌≡◌, ◌++◌, ◌∷◌, [], ◌∙◌, sym}
use Rattle.std.proofs.lemmas.List.{take_all}
use Rattle.bw_core.specs.Events.{latest}
use Rattle.bw_world.proofs.Members.{one_word_more}
use Rattle.bw_core.proofs.Seats.{latest_at_page, latest-length}
use Rattle.bw_world.proofs.copies.latest.Goals as goal

pub loop-page-preserved : goal.loop-page-preserved
loop-page-preserved c = let fs = c.args.first.now in let xs = c.args.mine.now in let ys = c.args.others.now in let p = c.loop-page.page in let n = latest-length fs xs ys in let pages = c.requires.pages in let e = pages.0 in let k = pages.1 in
    let pushed : c.push.new.self.items ≡ c.loop-page.ends.items ++ c.later.result ∷ [] = search rules in
    pushed ∙ one_word_more c.loop-page.ends.items c.later.result (latest fs xs ys) p c.loop-page.invariant (omega arith) (c.later.ensures ∙ sym (latest_at_page fs xs ys p (omega arith) e k))

pub returns : goal.returns
returns c = let fs = c.args.first.now in let xs = c.args.mine.now in let ys = c.args.others.now in let n = latest-length fs xs ys in let pages = c.requires.pages in let e = pages.0 in let k = pages.1 in
    c.loop-page.invariant ∙ take_all c.loop-page.page (latest fs xs ys) (omega arith)
