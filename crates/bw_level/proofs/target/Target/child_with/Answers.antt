use Rattle.std.proofs.Common.{◌∙◌, [], ℕ, List, ap, get_or, subst, sym, is_lt}
use Rattle.std.specs.FinMap.{put}
use Rattle.bw_key.specs.Order.{KeyBytes, key_cmp}
use Rattle.bw_level.specs.Targets.{IsChildFor, lies_from}
use Rattle.bw_level.proofs.ChildLemmas.{at_new, before_new, behind_new}
use Rattle.bw_level.proofs.target.Target.child_with.Goals as goal
use Rattle.bw_level.proofs.target.Target.child_with.Goals.{then-not-lies_from-via-then-not-lies_from, then-not-lies_from-via-else-not-lies_from+then-is_lt}

pub returns-then-not-lies_from : goal.returns-then-not-lies_from
returns-then-not-lies_from c =
    let children = c.args.inner.now.children in
    let sep = c.args.sep.now in
    let e = get_or children c.last_place-last.result ([], 0) in
    let entry = c.last_place-last.ensures.entry ([], 0) in
    let here : (l : List (KeyBytes × ℕ)) → List ℕ = λ l. (get_or l c.last_place-last.result ([], 0)).0 in
    let read = c.child.ensures ([], 0) ∙ ap (λ (l : List (KeyBytes × ℕ)). (get_or l c.last_place-last.result ([], 0)).1) c.children-children.ensures.value in
    subst (IsChildFor c.args.self (put key_cmp sep c.args.child children)) (sym read)
    (elim c.then-not-lies_from.branch [
      | then-not-lies_from-via-then-not-lies_from w ↦
          before_new c.args.self sep c.args.child children e entry (ap (lies_from c.args.self) (sym c.bytes.ensures.value) ∙ sym c.lies_from.ensures ∙ w.if-not-lies_from.true)
      | then-not-lies_from-via-else-not-lies_from+then-is_lt w ↦
          behind_new c.args.self sep c.args.child children e entry
          (ap (λ (k : KeyBytes). is_lt (key_cmp sep k)) (sym (w.separator.ensures ([], 0) ∙ ap here c.children-children.ensures.value))
          ∙ ap (λ (k : KeyBytes). is_lt (key_cmp k w.separator.result.now)) (sym w.bytes-else-not-lies_from.ensures.value)
          ∙ ap is_lt (sym w.compare_bytes.ensures) ∙ sym w.is_lt.ensures ∙ w.if-is_lt.true)
    ])

pub returns : goal.returns
returns c =
    let children = c.args.inner.now.children in
    let sep = c.args.sep.now in
    let e = get_or children c.last_place-last.result ([], 0) in
    let here : (l : List (KeyBytes × ℕ)) → List ℕ = λ l. (get_or l c.last_place-last.result ([], 0)).0 in
    at_new c.args.self sep c.args.child children e (c.last_place-last.ensures.entry ([], 0))
    (ap (lies_from c.args.self) (sym c.bytes.ensures.value) ∙ sym c.lies_from.ensures ∙ c.if-not-lies_from.false)
    (ap (λ (k : KeyBytes). is_lt (key_cmp sep k)) (sym (c.separator.ensures ([], 0) ∙ ap here c.children-children.ensures.value))
    ∙ ap (λ (k : KeyBytes). is_lt (key_cmp k c.separator.result.now)) (sym c.bytes-else-not-lies_from.ensures.value)
    ∙ ap is_lt (sym c.compare_bytes.ensures) ∙ sym c.is_lt.ensures ∙ c.if-is_lt.false)
