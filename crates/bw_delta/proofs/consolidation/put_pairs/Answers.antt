use Rattle.std.proofs.Common.{◌≡◌, ◌∙◌, ◌+◌, ◌-◌, ◌++◌, ◌∷◌, [], List, ap, arith, get_or, length, sym, take}
use Rattle.std.proofs.lemmas.List.{take_all, take_more}
use Rattle.std.specs.BTreeMap as tree
use Rattle.std.specs.FinMap.{find}
use Rattle.std.specs.Option.{option_or}
use Rattle.bw_key.specs.Order.{key_cmp}
use Rattle.bw_model.specs.Values.{Pair}
use Rattle.bw_delta.proofs.PairMaps.{find_last}
use Rattle.bw_delta.proofs.consolidation.put_pairs.Goals as goal

pub loop-left-init : goal.loop-left-init
loop-left-init c =
    let all : c.len-left.result ≡ length c.args.leaf.now.pairs = c.len-left.ensures ∙ ap (λ (l : List Pair). length l) c.pairs.ensures.value in
    record {
      bound = omega (arith, all);
      put = λ q below.
          ap (λ (l : List Pair). option_or (find key_cmp q l) (tree.get key_cmp c.args.values.now q)) (take_all c.len-left.result c.args.leaf.now.pairs (omega (arith, all)));
    }

pub put_pair-requires : goal.put_pair-requires
put_pair-requires c = omega (arith, c.loop-left.invariant.bound, c.loop-left-test.true)

pub loop-left-preserved : goal.loop-left-preserved
loop-left-preserved c =
    let pairs = c.args.leaf.now.pairs in
    let left = c.loop-left.left - 1 in
    let pair = get_or pairs left ([], []) in
    let one : c.loop-left.left ≡ left + 1 = omega (arith, c.loop-left-test.true) in
    let more : take c.loop-left.left pairs ≡ take left pairs ++ pair ∷ [] =
    ap (λ n. take n pairs) one ∙ take_more pairs left ([], []) (omega (arith, c.loop-left.invariant.bound, c.loop-left-test.true))
    in
    record {
      bound = omega (arith, c.loop-left.invariant.bound);
      put = λ q below.
          let before = tree.get key_cmp c.loop-left.values q in
          ap (option_or (find key_cmp q (take left pairs))) (c.in_ok-put_pair.ensures ([], []) q below)
          ∙ find_last q (take left pairs) pair before
          ∙ ap (λ (l : List Pair). option_or (find key_cmp q l) before) (sym more)
          ∙ c.loop-left.invariant.put q below;
    }

pub returns : goal.returns
returns c q below =
    let zero : c.loop-left.left ≡ 0 = omega (arith, c.loop-left-test.false) in
    let none : take c.loop-left.left c.args.leaf.now.pairs ≡ [] = ap (λ n. take n c.args.leaf.now.pairs) zero in
    ap (λ (l : List Pair). option_or (find key_cmp q l) (tree.get key_cmp c.loop-left.values q)) (sym none) ∙ c.loop-left.invariant.put q below
