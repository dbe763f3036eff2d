use Rattle.std.proofs.Common.{◌+◌, ◌-◌, ◌≡◌, ◌∙◌, ◌++◌, ◌∷◌, [], ℕ, List, ap, arith, drop, length-drop, slice_range, subst, sym, take}
use Rattle.bw_key.specs.Order.{KeyBytes}
use Rattle.bw_packed.specs.Search.{EndsAt}
use Rattle.bw_model.specs.Sorted.{place_of}
use Rattle.bw_page.proofs.Entries.{sorted_drop}
use Rattle.bw_page.proofs.MergingLemmas.{entry_added, rest_is}
use Rattle.bw_page.proofs.Search.{is_before, parted, parts_at}
use Rattle.bw_page.proofs.children.Children.add_entry.Goals as goal

pub returns-clause-ok : goal.returns-clause-ok
returns-clause-ok c =
    let all = c.args.children.now in
    let key = c.args.entry.now.0 in
    let passed = c.args.passed in
    let n = c.place_in.result in
    let rest = drop passed all in
    let sorted = sorted_drop passed all c.requires.sorted in
    let behind = ap (λ i. slice_range all passed i) c.len.ensures.value ∙ rest_is passed all in
    let ends = subst (λ (l : List (KeyBytes × ℕ)). EndsAt (is_before key) l n) behind c.place_in.ensures.parts in
    let place : n ≡ place_of key rest = parts_at key rest n sorted (omega (arith, c.place_in.ensures.bound, c.len.ensures.value, length-drop passed all)) (ends (parted key rest sorted)) in
    let back : (passed + n) - passed ≡ n = omega arith in
    entry_added c.args.self.now _ c.push.new.self all passed n c.behind.result c.args.entry.now place
    (λ child. ap (λ i. (take i rest ++ (key, child) ∷ []) ++ drop c.behind.result all) (sym back) ∙ c.behind.ensures.put passed (omega arith) (back ∙ place) child)
    (c.in_ok-extend.ensures.ok ∙ ap (λ i. c.args.self.now ++ take i rest) back) c.in_ok-push.ensures.ok
