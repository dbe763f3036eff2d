use Rattle.std.proofs.Common.{◌≡◌, ◌∙◌, ◌+◌, ◌-◌, ◌++◌, ◌∷◌, Bor, List, ap, arith, drop, length, subst, sym, take}
use Rattle.std.proofs.lemmas.List.{drop-drop, take_rest}
use Rattle.bw_delta.specs.History.{pointed_to}
use Rattle.bw_delta.specs.Merging.{merged_value, IsMerging}
use Rattle.bw_delta.specs.Writes.{WriteView}
use Rattle.bw_delta.proofs.Orders.{next_write}
use Rattle.bw_delta.proofs.merging.merged.Goals as goal

pub loop-next-preserved : goal.loop-next-preserved
loop-next-preserved c =
    let ws = c.args.writes.now in
    let next = c.loop-next.next in
    let more = c.in_ok-left.left.1 in
    let merged = c.push_key.new.merged in
    let rest = c.in_ok-left.left.0 in
    let behind : drop more (take (length ws - (next + 1)) (drop (next + 1) ws)) ≡ drop (next + (1 + more)) ws =
    ap (drop more) (take_rest ws (next + 1)) ∙ drop-drop more (next + 1) ws ∙ ap (λ n. drop n ws) (omega arith)
    in
    let here : c.index-writes-next.result.now ∷ pointed_to (take (length ws - (next + 1)) (drop (next + 1) ws)) ≡ pointed_to (drop next ws) =
    ap (λ (l : List (Bor WriteView)). c.index-writes-next.result.now ∷ pointed_to l) (take_rest ws (next + 1))
    ∙ sym (next_write ws next c.index-writes-next.result c.loop-next-test.true c.index-writes-next.is)
    in
    record {
      merging = subst (λ (l : List (Bor WriteView)). IsMerging merged rest (pointed_to l)) behind c.in_ok-left.ensures.merging;
      values = λ q.
          ap (λ (l : List (Bor WriteView)). merged_value (merged ++ rest) (pointed_to l) q) (sym behind)
          ∙ c.in_ok-left.ensures.values q
          ∙ ap (λ (l : List WriteView). merged_value (c.loop-next.merged ++ c.loop-next.rest) l q) here
          ∙ c.loop-next.invariant.values q;
    }
