use Rattle.std.proofs.Common.{◌≡◌, suc, ◌+◌, ◌-◌, ◌<◌, ◌≤◌, ◌++◌, ◌∙◌, ap, arith, drop, get_or, length, length-drop, length-take, map, set, subst, sym, take, append-nil}
use Rattle.std.proofs.lemmas.List.{drop_all, take_all}
use Rattle.bw_packed.specs.Lists.{moved}
use Rattle.bw_packed.proofs.Packings.{end_between, not_written, written_more}
use Rattle.bw_packed.proofs.list.remove_entry.Given.{Over}
use Rattle.bw_packed.proofs.list.remove_entry.Goals as goal
use Rattle.bw_packed.proofs.list.remove_entry.Goals.{After-index}

pub loop-i-init : goal.loop-i-init
loop-i-init g c =
    let rest = drop (suc c.args.place) c.args.list.now.items in
    let none : 0 ≡ c.args.place - c.args.place = omega arith in
    c.remove-removed.ensures.items ∙ ap (λ n. take c.args.place c.args.list.now.items ++ (map (moved c.args.from c.args.to) (take n rest) ++ drop n rest)) none

-- the place in the loop, counted from the end of the entries before the one that is taken away
behind_front : (g : Over) (c : After-index g) → c.loop-i.i ≡ length (take c.args.place c.args.list.now.items) + (c.loop-i.i - c.args.place)
behind_front g c = omega (arith, length-take c.args.place c.args.list.now.items, c.loop-i.auto.i, c.requires.there)

in_rest : (g : Over) (c : After-index g) → c.loop-i.i - c.args.place < length (drop (suc c.args.place) c.args.list.now.items)
in_rest g c =
    let es = c.args.list.now.items in
    omega (arith, c.loop-i-test.true, c.loop-i.auto.i, c.len-i-end.ensures, c.remove-removed.ensures.len, c.args.list.now.ok.0, length-drop (suc c.args.place) es)

-- the entry that is read there hasn't been moved
unmoved : (g : Over) (c : After-index g) → c.index.result.now ≡ get_or (drop (suc c.args.place) c.args.list.now.items) (c.loop-i.i - c.args.place) c.index.result.now
unmoved g c =
    let es = c.args.list.now.items in
    not_written (moved c.args.from c.args.to) (take c.args.place es) (drop (suc c.args.place) es) c.loop-i.list.items c.loop-i.i (c.loop-i.i - c.args.place) c.index.result.now (behind_front g c) (in_rest g c) c.loop-i.invariant c.index.ensures

-- so its end lies between those from which and to which the ends rise
end_there : (g : Over) (c : After-index g) → (c.args.from ≤ c.index.result.now.end) × (c.index.result.now.end ≤ c.requires.ends.0)
end_there g c =
    let rest = drop (suc c.args.place) c.args.list.now.items in
    subst (λ e. (c.args.from ≤ e.end) × (e.end ≤ c.requires.ends.0)) (sym (unmoved g c)) (end_between c.args.from c.requires.ends.0 (c.loop-i.i - c.args.place) rest c.index.result.now c.requires.ends.1.0 (in_rest g c))

pub moved-requires-clause-behind : goal.moved-requires-clause-behind
moved-requires-clause-behind g c = (end_there g (goal.at.moved-requires-clause-behind g c).After-index).0

pub moved-requires-clause-fits : goal.moved-requires-clause-fits
moved-requires-clause-fits g c = omega (arith, (end_there g (goal.at.moved-requires-clause-fits g c).After-index).1, c.requires.ends.1.1)

pub loop-i-preserved : goal.loop-i-preserved
loop-i-preserved g c =
    let es = c.args.list.now.items in
    let place = c.args.place in
    let rest = drop (suc place) es in
    let k = c.loop-i.i - place in
    let there = (goal.at.loop-i-preserved g c).After-index in
    let more = written_more (moved c.args.from c.args.to) (take place es) rest c.loop-i.list.items c.loop-i.i k c.index.result.now (behind_front g there) (in_rest g there) c.loop-i.invariant c.index.ensures in
    let next : k + 1 ≡ c.loop-i.i + 1 - place = omega (arith, c.loop-i.auto.i) in
    ap (λ e. set c.loop-i.list.items c.loop-i.i e) c.moved.ensures ∙ more ∙ ap (λ n. take place es ++ (map (moved c.args.from c.args.to) (take n rest) ++ drop n rest)) next

pub returns : goal.returns
returns g c =
    let es = c.args.list.now.items in
    let rest = drop (suc c.args.place) es in
    let n = c.loop-i.i - c.args.place in
    let all : length rest ≤ n = omega (arith, length-drop (suc c.args.place) es, c.len-i-end.ensures, c.remove-removed.ensures.len, c.args.list.now.ok.0, c.loop-i-test.false) in
    c.loop-i.invariant
    ∙ ap (λ l. take c.args.place es ++ (map (moved c.args.from c.args.to) l ++ drop n rest)) (take_all n rest all)
    ∙ ap (λ l. take c.args.place es ++ (map (moved c.args.from c.args.to) rest ++ l)) (drop_all n rest all)
    ∙ ap (λ l. take c.args.place es ++ l) (append-nil (map (moved c.args.from c.args.to) rest))
