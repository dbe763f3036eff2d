use Rattle.std.proofs.Common.{◌≡◌, ◌∙◌, ◌+◌, ◌<◌, ◌++◌, ◌∷◌, [], List, ℕ, ap, append-nil, append_assoc, arith, get_or, length, sym, take}
use Rattle.std.proofs.lemmas.Grind.{flat_map-append}
use Rattle.std.proofs.lemmas.List.{take_more}
use Rattle.std.specs.List.{flat_map}
use Rattle.std.specs.Fmt.{decimal}
use Rattle.bw_key.specs.Order.{KeyBytes}
use Rattle.bw_model.specs.Values.{ValueBytes}
use Rattle.bw_text.specs.Texts.{line, pair_text}
use Rattle.bw_text.proofs.texts.push_pairs.Goals as goal

pub loop-place-preserved : goal.loop-place-preserved
loop-place-preserved c =
    let pairs = c.args.pairs.now in
    let place = c.loop-place.place in
    let old = c.args.text.now.items in
    let head = line (c.args.word.now ++ decimal (length pairs)) in
    let pair = get_or pairs place ([], []) in
    let front = flat_map pair_text (take place pairs) in
    let there : place < length pairs = omega (arith, c.loop-place-test.true, c.len-place-end.ensures) in
    let text : pair_text (c.key_at.result.now, c.value_at.result.now) ≡ pair_text pair =
    ap (λ (k : KeyBytes). pair_text (k, c.value_at.result.now)) (c.key_at.ensures ([], [])) ∙ ap (λ (v : ValueBytes). pair_text (pair.0, v)) (c.value_at.ensures ([], []))
    in
    let more : flat_map pair_text (take (place + 1) pairs) ≡ front ++ pair_text pair =
    ap (flat_map pair_text) (take_more pairs place ([], []) there)
    ∙ flat_map-append pair_text (take place pairs) (pair ∷ [])
    ∙ ap (λ (l : List ℕ). front ++ l) (append-nil (pair_text pair))
    in
    c.in_ok-push_pair.ensures
    ∙ ap (λ (l : List ℕ). l ++ pair_text (c.key_at.result.now, c.value_at.result.now)) c.loop-place.invariant
    ∙ ap (λ (l : List ℕ). (old ++ (head ++ front)) ++ l) text
    ∙ append_assoc old (head ++ front) (pair_text pair)
    ∙ ap (λ (l : List ℕ). old ++ l) (append_assoc head front (pair_text pair) ∙ ap (λ (l : List ℕ). head ++ l) (sym more))
