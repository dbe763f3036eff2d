use Rattle.std.proofs.Common.{◌≡◌, ◌∙◌, [], List, None, Some, ap, drop, false, get_or, subst, sym, take, true}
use Rattle.bw_key.specs.Order.{KeyBytes, key_eq}
use Rattle.bw_model.specs.Values.{Pair, ValueBytes}
use Rattle.bw_delta.specs.Merging.{AreCutAt}
use Rattle.bw_delta.proofs.Merges.{cut_found, cut_none, cut_other, first_of_rest, none_left, some_left, turned}
use Rattle.bw_delta.proofs.merging.parted.Goals as goal

pub returns-then-is_empty : goal.returns-then-is_empty
returns-then-is_empty c =
    let key = c.args.key.now in
    let pairs = c.args.pairs.now in
    let at = c.place_near.result in
    let none = sym c.split_at-before.ensures.back ∙ none_left c.split_at-before.result.1 c.is_empty.result c.is_empty.ensures c.if-is_empty.true in
    subst (λ (l : List Pair). AreCutAt pairs key l None c.split_at-before.result.1) (sym c.split_at-before.ensures.front)
    (subst (λ (l : List Pair). AreCutAt pairs key (take at pairs) None l) (sym c.split_at-before.ensures.back) (cut_none key pairs at c.place_near.ensures.value none))

pub returns-then-ne : goal.returns-then-ne
returns-then-ne c =
    let key = c.args.key.now in
    let pairs = c.args.pairs.now in
    let at = c.place_near.result in
    let rest = c.split_at-before.result.1 in
    let pair = get_or rest 0 ([], []) in
    let first = first_of_rest rest ([], []) (some_left rest c.is_empty.result c.is_empty.ensures c.if-is_empty.false) in
    let other : key_eq pair.0 key ≡ false =
    ap (λ (k : KeyBytes). key_eq k key) (sym (c.key_at.ensures ([], []))) ∙ turned _ true (sym c.ne.ensures ∙ c.if-ne.true)
    in
    subst (λ (l : List Pair). AreCutAt pairs key l None rest) (sym c.split_at-before.ensures.front)
    (subst (λ (l : List Pair). AreCutAt pairs key (take at pairs) None l) (sym c.split_at-before.ensures.back)
    (cut_other key pairs at pair (drop 1 rest) c.place_near.ensures.value c.requires (sym c.split_at-before.ensures.back ∙ first) other))

pub returns : goal.returns
returns c =
    let key = c.args.key.now in
    let pairs = c.args.pairs.now in
    let at = c.place_near.result in
    let rest = c.split_at-before.result.1 in
    let pair = get_or rest 0 ([], []) in
    let value = c.value_at-value.result.now in
    let behind = c.split_at-first.result.1 in
    let first = first_of_rest rest ([], []) (some_left rest c.is_empty.result c.is_empty.ensures c.if-is_empty.false) in
    let same : key_eq pair.0 key ≡ true =
    ap (λ (k : KeyBytes). key_eq k key) (sym (c.key_at.ensures ([], []))) ∙ turned _ false (sym c.ne.ensures ∙ c.if-ne.false)
    in
    subst (λ (l : List Pair). AreCutAt pairs key l (Some value) behind) (sym c.split_at-before.ensures.front)
    (subst (λ (v : ValueBytes). AreCutAt pairs key (take at pairs) (Some v) behind) (sym (c.value_at-value.ensures ([], [])))
    (subst (λ (l : List Pair). AreCutAt pairs key (take at pairs) (Some pair.1) l) (sym c.split_at-first.ensures.back)
    (cut_found key pairs at pair (drop 1 rest) c.place_near.ensures.value c.requires (sym c.split_at-before.ensures.back ∙ first) same)))
