use Rattle.std.proofs.Common.{◌≡◌, ◌-◌, ◌∙◌, ◌++◌, ◌∷◌, [], List, T, ap, length, reverse, subst, sym, take}
use Rattle.std.specs.Iterator.Adapters.{rev_source}
use Rattle.std.specs.FinMap.{is_sorted}
use Rattle.std.specs.Option.{option_copied}
use Rattle.bw_key.specs.Order.{KeyBytes, key_cmp}
use Rattle.bw_model.specs.Values.{Pair}
use Rattle.bw_delta.specs.Merging.{with_value, AreCutAt}
use Rattle.bw_delta.specs.Present.{changed_pairs, Change}
use Rattle.bw_delta.proofs.Changes.{before_sorted, passed_down, sorted_front}
use Rattle.bw_delta.proofs.Replays.{kept_before}
use Rattle.bw_delta.proofs.range_reads.add_falling.Goals as goal

pub loop-key-preserved : goal.loop-key-preserved
loop-key-preserved c =
    let old = c.args.read.now in
    let read = c.loop-key.read in
    let left = c.loop-key.left in
    let rest = c.loop-key.rest in
    let k = c.in-Some.key.now in
    let v = c.in-Some.value.now in
    let lower = (rev_source c.next.new.self) in
    let before = c.parted-before.result.0 in
    let behind = c.parted-before.result.2 in
    let gone = option_copied c.parted-before.result.1 in
    let cut = subst (λ (k : KeyBytes). AreCutAt rest k before gone behind) c.bytes.ensures.value c.parted-before.ensures in
    let here = with_value k v [] in
    let added : c.add_value.new.read ≡ (read ++ take left (reverse behind)) ++ take c.in_ok-left.left here =
    c.in_ok-left-2.ensures.added ∙ ap (λ (l : List Pair). l ++ take c.in_ok-left.left here) c.in_ok-left.ensures.added
    in
    let changes = subst (λ (l : List Change). T (is_sorted key_cmp l)) c.in-Some.ensures.steps c.loop-key.invariant.changes in
    let next = reverse (changed_pairs lower before) in
    record {
      kept = ap (take (length old)) added ∙ kept_before old (read ++ take left (reverse behind)) (take c.in_ok-left.left here) (kept_before old read (take left (reverse behind)) c.loop-key.invariant.kept);
      pairs = before_sorted k gone rest before behind cut c.loop-key.invariant.pairs;
      changes = sorted_front lower ((k, v) ∷ []) changes;
      taken =
          ap (λ (l : List Pair). l ++ take c.in_ok-left-2.left next) added
          ∙ ap (λ n. ((read ++ take left (reverse behind)) ++ take c.in_ok-left.left here) ++ take n next) c.in_ok-left-2.ensures.left
          ∙ ap (λ n. ((read ++ take left (reverse behind)) ++ take n here) ++ take (n - length here) next) c.in_ok-left.ensures.left
          ∙ passed_down k v gone rest before behind cut c.loop-key.invariant.pairs read _ left lower changes
          (sym (ap (λ (l : List Change). read ++ take left (reverse (changed_pairs l rest))) c.in-Some.ensures.steps) ∙ c.loop-key.invariant.taken);
    }
