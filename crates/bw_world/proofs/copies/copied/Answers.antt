use Rattle.std.proofs.Common.{rules, arith, ℕ, ◌≡◌, ◌<◌, ◌++◌, ◌∷◌, [], List, ◌∙◌, ap, sym, length, map}
use Rattle.std.proofs.lemmas.List.{length-map}
use Rattle.bw_memory.specs.Alloc.{Vec}
use Rattle.bw_world.proofs.Members.{get_or-map, one_more}
use Rattle.bw_world.proofs.copies.copied.Goals as goal

pub loop-chain-preserved : goal.loop-chain-preserved
loop-chain-preserved c = let f : Vec ℕ → List ℕ = λ v. v.items in let xs = c.args.chains.now in let n = length-map xs f in
    let pushed : c.push.new.self.items ≡ c.loop-chain.copies.items ++ c.in_ok-from_slice.field-0 ∷ [] = search rules in
    let inside : c.loop-chain.chain-index < length xs = omega arith in
    let same : f c.in_ok-from_slice.field-0 ≡ f c.chain-item.result = search rules in
    ap (map f) pushed ∙ one_more f c.loop-chain.copies.items c.in_ok-from_slice.field-0 (map f xs) c.loop-chain.chain-index [] c.loop-chain.invariant (omega arith) (same ∙ sym (get_or-map f xs c.loop-chain.chain-index c.chain-item.result [] inside c.chain-item.is))
