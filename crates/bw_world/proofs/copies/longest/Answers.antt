use Rattle.std.proofs.Common.{rules, arith, ℕ, ◌≡◌, ◌<◌, ◌++◌, ◌∷◌, [], List, ◌∙◌, ap, sym, length, map}
use Rattle.std.proofs.lemmas.List.{length-map, take_all}
use Rattle.bw_memory.specs.Alloc.{Vec}
use Rattle.bw_core.specs.Events.{longer_of, longest}
use Rattle.bw_world.proofs.Members.{get_or-map, one_more}
use Rattle.bw_core.proofs.Seats.{longest_at, longest-length}
use Rattle.bw_world.proofs.copies.longest.Goals as goal

pub loop-page-preserved : goal.loop-page-preserved
loop-page-preserved c = let f : Vec ℕ → List ℕ = λ v. v.items in let xs = c.args.mine.now in let ys = c.args.others.now in let p = c.loop-page.page in let n = length-map xs f in let m = length-map ys f in
    let inside : p < length xs = omega arith in let wide = longest-length (map f xs) (map f ys) (omega arith) in
    let pushed : c.push.new.self.items ≡ c.loop-page.chains.items ++ c.in_ok-from_slice.field-0 ∷ [] = search rules in
    let same : f c.in_ok-from_slice.field-0 ≡ longer_of (f c.index-mine-page.result) (f c.index-others-page.result) = search rules in
    let mine = get_or-map f xs p c.index-mine-page.result [] inside c.index-mine-page.is in let other = get_or-map f ys p c.index-others-page.result [] (omega arith) c.index-others-page.is in
    ap (map f) pushed ∙ one_more f c.loop-page.chains.items c.in_ok-from_slice.field-0 (longest (map f xs) (map f ys)) p [] c.loop-page.invariant (omega arith)
    (same ∙ ((λ j. longer_of (sym mine j) (sym other j)) ∙ sym (longest_at (map f xs) (map f ys) p (omega arith) (omega arith))))

pub returns : goal.returns
returns c = let f : Vec ℕ → List ℕ = λ v. v.items in let xs = c.args.mine.now in let ys = c.args.others.now in let n = length-map xs f in let m = length-map ys f in
    let wide = longest-length (map f xs) (map f ys) (omega arith) in c.loop-page.invariant ∙ take_all c.loop-page.page (longest (map f xs) (map f ys)) (omega arith)
