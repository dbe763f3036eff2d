use Rattle.std.proofs.Common.{rules, arith, sym, ap, subst, ◌∙◌, ◌≡◌, ◌<◌, ◌-◌, ◌++◌, ◌∷◌, ℕ, List, []}
use Rattle.bw_core.specs.World.{times, seen_at, top}
use Rattle.bw_board.specs.declared.table.Sight.{Sight}
use Rattle.bw_board.proofs.Walk.{Walks, walk_starts, walk_goes, walk_record, walk_seen}
use Rattle.bw_board.proofs.page_chains.peek.Goals as goal

pub loop-word-init : goal.loop-word-init
loop-word-init c = let e = c.look-word.ensures in let v = c.args.place.now.me.0 in let p = c.requires.page in let n = c.requires.pages in record {
  seat = e.seat;
  walk = subst (Walks v c.look-word.new.place.me.0 c.args.page c.look-word.result) (sym c.new-chain.ensures.items)
      (walk_starts v c.look-word.new.place.me.0 c.args.page c.look-word.result (omega arith) e.seen e.sane e.head);
}

pub follow-word-requires-clause-rec : goal.follow-word-requires-clause-rec
follow-word-requires-clause-rec c = let k = c.loop-word.invariant.walk in
    let f : c.loop-word.place.me.0.floor ≡ c.args.floor = ap (λ (z : Sight). z.floor) k.sees.after ∙ sym c.requires.floor in
    subst (λ z. c.loop-word.word - z < c.loop-word.place.me.0.records) f (walk_record _ _ c.args.page c.loop-word.word c.loop-word.chain.items k (omega arith))

pub follow-word-requires-clause-seen : goal.follow-word-requires-clause-seen
follow-word-requires-clause-seen c = let k = c.loop-word.invariant.walk in
    let f : c.loop-word.place.me.0.floor ≡ c.args.floor = ap (λ (z : Sight). z.floor) k.sees.after ∙ sym c.requires.floor in
    (c.args.page, k.inside, subst (λ z. 0 < times (c.loop-word.word - z) (seen_at c.loop-word.place.me.0.book c.args.page)) f (walk_seen _ _ c.args.page c.loop-word.word c.loop-word.chain.items k (omega arith)))

pub loop-word-preserved : goal.loop-word-preserved
loop-word-preserved c = let k = c.loop-word.invariant.walk in
    let f : c.loop-word.place.me.0.floor ≡ c.args.floor = ap (λ (z : Sight). z.floor) k.sees.after ∙ sym c.requires.floor in
    let w = c.loop-word.place.me.0 in let r = c.loop-word.word - c.args.floor in
    let told : (front rest : List ℕ) → seen_at w.book c.args.page ≡ front ++ (c.loop-word.word - w.floor) ∷ rest → (x : ℕ) × (c.follow-word.result ≡ top w.floor x rest) × (x < w.floor)
    = λ front rest is. c.follow-word.ensures.found c.args.page front rest k.inside (is ∙ ap (λ z. front ++ (c.loop-word.word - z) ∷ rest) f) in
    let next = walk_goes _ w c.args.page c.loop-word.word c.follow-word.result c.loop-word.chain.items k (omega arith) told in
    let items : c.push.new.self.items ≡ c.loop-word.chain.items ++ (c.loop-word.word - w.floor) ∷ [] = search rules in record {
      seat = c.follow-word.ensures.seat;
      walk = subst (λ z. Walks c.args.place.now.me.0 z c.args.page c.follow-word.result c.push.new.self.items) (sym c.follow-word.ensures.same)
          (subst (Walks c.args.place.now.me.0 w c.args.page c.follow-word.result) (sym items) next);
    }
