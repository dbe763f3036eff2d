use Rattle.std.proofs.Common.{arith, sym, subst, ◌≡◌, ◌<◌, ◌-◌, length, get_or}
use Rattle.bw_core.specs.World.{Meets}
use Rattle.bw_board.proofs.Ends.{walk_down, low_end, walk_end}
use Rattle.bw_board.proofs.last_words.last_word.Goals as goal

pub loop-i-init : goal.loop-i-init
loop-i-init c = let k = c.requires.chain in let short = k.short in (k.chain, k.chain, k.last, k.met, k.met, k.low, omega arith)

pub bounds-links-word : goal.bounds-links-word
bounds-links-word c = let k = c.loop-i.invariant in (walk_down c.args.floor c.args.links.now c.loop-i.word k.1 k.2 k.4 k.5 (omega arith)).0

pub offset_bounds-links-word : goal.offset_bounds-links-word
offset_bounds-links-word c = let k = c.loop-i.invariant in let b : c.loop-i.word - c.args.floor < length c.args.links.now = (walk_down c.args.floor c.args.links.now c.loop-i.word k.1 k.2 k.4 k.5 (omega arith)).0 in omega arith

pub loop-i-preserved : goal.loop-i-preserved
loop-i-preserved c = let k = c.loop-i.invariant in let t = walk_down c.args.floor c.args.links.now c.loop-i.word k.1 k.2 k.4 k.5 (omega arith) in let n = t.1.2 in let m = k.6 in
    (k.0, t.1.0, k.2, k.3, t.1.1, k.5, omega arith)

pub returns : goal.returns
returns c = let k = c.loop-i.invariant in let short = k.6 in let e : c.loop-i.word ≡ k.2 = walk_end c.args.floor c.args.links.now c.loop-i.word k.1 k.2 k.4 (omega arith) in
    record {
      end = record {
        chain = k.0;
        met = subst (λ z. Meets c.args.floor c.args.links.now (get_or c.args.heads.now c.args.page 0) k.0 z) (sym e) k.3;
        low = subst (λ z. z < c.args.floor) (sym e) k.5;
      };
    }

pub returns-then-word-floor : goal.returns-then-word-floor
returns-then-word-floor c = let k = c.loop-i.invariant in let e : c.loop-i.word ≡ k.2 = low_end c.args.floor c.args.links.now c.loop-i.word k.1 k.2 k.4 (omega arith) in
    record {
      end = record {
        chain = k.0;
        met = subst (λ z. Meets c.args.floor c.args.links.now (get_or c.args.heads.now c.args.page 0) k.0 z) (sym e) k.3;
        low = subst (λ z. z < c.args.floor) (sym e) k.5;
      };
    }
