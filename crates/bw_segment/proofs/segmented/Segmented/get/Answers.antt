use Rattle.std.proofs.Common.{◌≡◌, ◌+◌, ◌*◌, ◌/◌, ◌%◌, ◌<◌, ◌≤◌, ◌∙◌, ap, arith, length, map, refl, slice_get, sym}
use Rattle.std.proofs.lemmas.List.{length-map}
use Rattle.std.proofs.lemmas.Option.{slice_get_past, slice_get_read}
use Rattle.std.proofs.Math.Nat.{div-add-mod'}
use Rattle.bw_segment.specs.Segments.{SegmentedView, joined}
use Rattle.bw_segment.proofs.SegmentsLemmas.{full_at, get_full, get_last, length_joined, looked_up}
use Rattle.bw_segment.proofs.segmented.Segmented.get.Goals as goal

pub index-requires-then-segment-len : goal.index-requires-then-segment-len
index-requires-then-segment-len g c =
    let at = full_at _ (λ v. v.items) c.self.inside.full.items c.index.result.now (c.args.place / 1024) c.self.invariant.lengths (omega (arith, c.if-segment-len.true, c.len.ensures, c.self.inside.full.ok)) c.index.ensures in
    omega (arith, at.0, c.index.result.now.ok)

pub returns-then-segment-len : goal.returns-then-segment-len
returns-then-segment-len g c =
    let full = map (λ v. v.items) c.self.inside.full.items in
    let entries = c.index.result.now.items in
    let q = c.args.place / 1024 in
    let r = c.args.place % 1024 in
    let within : q < length c.self.inside.full.items = omega (arith, c.if-segment-len.true, c.len.ensures, c.self.inside.full.ok) in
    let at = full_at _ (λ v. v.items) c.self.inside.full.items c.index.result.now q c.self.invariant.lengths within c.index.ensures in
    sym (
    ap (λ (s : SegmentedView _). slice_get s.items c.args.place) (sym c.self.view_is)
    ∙ ap (slice_get (joined full c.self.inside.last.items)) (sym (div-add-mod' c.args.place 1024))
    ∙ get_full full c.self.inside.last.items q r entries c.self.invariant.lengths (omega (arith, within, length-map c.self.inside.full.items (λ v. v.items))) (omega arith)
    ∙ ap (λ l. slice_get l r) at.1
    ∙ slice_get_read entries (length entries) r c.index-then-segment-len.result.now refl (omega (arith, at.0)) c.index-then-segment-len.ensures
    )

pub returns-then-segment-len-2 : goal.returns-then-segment-len-2
returns-then-segment-len-2 g c =
    let full = map (λ v. v.items) c.self.inside.full.items in
    let r = c.args.place % 1024 in
    let all : c.args.place ≡ length full * 1024 + r = omega (arith, div-add-mod' c.args.place 1024, c.if-segment-len-2.true, c.len-else-segment-len.ensures, c.self.inside.full.ok, length-map c.self.inside.full.items (λ v. v.items)) in
    looked_up c.deref.result.now r c.get.result c.get.ensures.lookup
    ∙ ap (λ l. slice_get l r) c.deref.ensures.value
    ∙ sym (
    ap (λ (s : SegmentedView _). slice_get s.items c.args.place) (sym c.self.view_is)
    ∙ ap (slice_get (joined full c.self.inside.last.items)) all
    ∙ get_last full c.self.inside.last.items r c.self.invariant.lengths
    )

pub returns-else-segment-len-2 : goal.returns-else-segment-len-2
returns-else-segment-len-2 g c =
    let full = map (λ v. v.items) c.self.inside.full.items in
    let all = length_joined full c.self.inside.last.items c.self.invariant.lengths in
    let past : length (joined full c.self.inside.last.items) ≤ c.args.place = omega (arith, all, div-add-mod' c.args.place 1024, c.if-segment-len.false, c.if-segment-len-2.false, c.len.ensures, c.len-else-segment-len.ensures, c.self.inside.full.ok, c.self.invariant.rest, length-map c.self.inside.full.items (λ v. v.items)) in
    sym (
    ap (λ (s : SegmentedView _). slice_get s.items c.args.place) (sym c.self.view_is)
    ∙ slice_get_past (joined full c.self.inside.last.items) c.args.place past
    )
