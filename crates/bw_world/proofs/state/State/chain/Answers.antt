use Rattle.std.proofs.Common.{rules, arith, sym, subst, ◌≡◌, ◌<◌, ◌-◌, ◌++◌, ◌∷◌, [], ℕ, List, length, get_or}
use Rattle.std.proofs.lemmas.Grind.{common_steps}
use Rattle.bw_core.specs.World.{World}
use Rattle.bw_world.specs.Inside.{view_of}
use Rattle.bw_core.specs.Transitions.{IsWorld, IsFresh}
use Rattle.bw_world.proofs.Reading.{Reads, reads_start, reads_next, reads_record, reads_end}
use Rattle.bw_world.proofs.state.State.chain.Goals as goal

pub loop-word-init : goal.loop-word-init
loop-word-init c = let i = c.self.inside in let w : World = view_of i in let k : IsWorld w = subst IsWorld (sym c.self.view_is) c.requires.lawful in
    let h : c.args.page < length i.first.items = subst (λ (z : World). c.args.page < length z.first) (sym c.self.view_is) c.requires.page in
    let room : c.args.page < length i.heads.items = let e = k.lawful.head_each_page in omega arith in
    let word : c.index-word.result.now ≡ get_or i.heads.items c.args.page 0 = grind (arith, common_steps) in
    let none : c.new-records.result.items ≡ [] = search rules in
    (k.lawful.last c.args.page, subst (λ (z : ℕ × List ℕ). Reads i.floor i.links.items (get_or i.heads.items c.args.page 0) (k.lawful.last c.args.page) z.0 z.1) (λ j. (sym word j, sym none j)) (reads_start w k.lawful c.args.page h))

pub index-word-requires-in-loop-word : goal.index-word-requires-in-loop-word
index-word-requires-in-loop-word c = let i = c.self.inside in let k = c.loop-word.invariant in let h = reads_record i.floor i.links.items _ k.0 c.loop-word.word c.loop-word.records.items k.1 (omega arith) in let ok = i.links.ok in omega arith

pub loop-word-preserved : goal.loop-word-preserved
loop-word-preserved c = let i = c.self.inside in let m = c.loop-word.invariant in let last : ℕ = m.0 in
    let k = reads_next i.floor i.links.items _ last c.loop-word.word c.loop-word.records.items m.1 (omega arith) in
    let h = reads_record i.floor i.links.items _ last c.loop-word.word c.loop-word.records.items m.1 (omega arith) in
    let items : c.push.new.self.items ≡ c.loop-word.records.items ++ (c.loop-word.word - i.floor) ∷ [] = search rules in
    let word : c.index-word-in-loop-word.result.now ≡ get_or i.links.items (c.loop-word.word - i.floor) 0 = grind (arith, common_steps) in
    (last, subst (λ (z : ℕ × List ℕ). Reads i.floor i.links.items (get_or i.heads.items c.args.page 0) last z.0 z.1) (λ j. (sym word j, sym items j)) k)

pub returns : goal.returns
returns c = let i = c.self.inside in let m = c.loop-word.invariant in
    subst (λ (z : World). IsFresh z c.args.page c.loop-word.records.items c.loop-word.word) c.self.view_is
    (reads_end i.floor i.links.items (get_or i.heads.items c.args.page 0) m.0 c.loop-word.word c.loop-word.records.items m.1 (omega arith))
