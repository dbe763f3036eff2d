use Rattle.std.proofs.Common.{◌≡◌, ◌+◌, ◌++◌, ◌<◌, ◌^◌, ◌∙◌, ◌∷◌, [], List, ℕ, ap, arith, length, length-append}
use Rattle.bw_packed.proofs.Packings.{pushed, pushed_packed}
use Rattle.bw_packed.proofs.list.Packed.push_parts.Goals as goal

pub invariant_of-self-2 : goal.invariant_of-self-2
invariant_of-self-2 g c =
    let bs = c.self.inside.bytes.items in
    let parts = c.args.first.now ++ c.args.second.now in
    let ends : c.in_ok-end.end ≡ length bs + length parts = omega (arith, length-append c.args.first.now c.args.second.now) in
    let fits : c.in_ok-end.end < 2 ^ 32 = omega arith in
    rw (c.in_ok-push_bytes.ensures.ok, c.push_reserved.ensures.items, c.reserve.ensures.items)
    (pushed_packed bs parts c.self.inside.entries.items (record { end = c.in_ok-end.end; tag = c.args.tag }) c.self.invariant ends fits)

pub returns-clause-ok : goal.returns-clause-ok
returns-clause-ok g c =
    let bs = c.self.inside.bytes.items in
    let parts = c.args.first.now ++ c.args.second.now in
    let ends : c.in_ok-end.end ≡ length bs + length parts = omega (arith, length-append c.args.first.now c.args.second.now) in
    rw (c.in_ok-push_bytes.ensures.ok, c.push_reserved.ensures.items, c.reserve.ensures.items)
    (pushed bs parts c.self.inside.entries.items (record { end = c.in_ok-end.end; tag = c.args.tag }) c.self.invariant ends
    ∙ ap (λ (xs : List (List ℕ × _)). xs ++ (parts, c.args.tag) ∷ []) c.self.view_is)
