use Rattle.std.proofs.Common.{◌≡◌, ◌+◌, ◌*◌, ◌/◌, ◌%◌, ◌<◌, ◌∙◌, List, ap, arith, length, map, set, slice_get, subst, sym}
use Rattle.std.proofs.lemmas.List.{length-map, length-set, map-set}
use Rattle.std.proofs.lemmas.List.Elements.{All-set}
use Rattle.std.proofs.Math.Nat.{div-add-mod'}
use Rattle.bw_segment.specs.Segments.{SegmentedView, joined}
use Rattle.bw_segment.proofs.SegmentsLemmas.{AreFull, full_at, get_full, get_last, length_joined, set_full, set_last}
use Rattle.bw_segment.proofs.segmented.Segmented.replace.Goals as goal

pub replace_in-requires : goal.replace_in-requires
replace_in-requires g c =
    let q = c.args.place / 1024 in
    let within : q < length c.self.inside.full.items = omega (arith, c.if-segment-len.true, c.len.ensures, c.self.inside.full.ok) in
    let at = full_at _ (λ v. v.items) c.self.inside.full.items c.index_mut.result.now q c.self.invariant.lengths within c.index_mut.ensures.value in
    omega (arith, at.0)

pub invariant_of-self : goal.invariant_of-self
invariant_of-self g c =
    let full = map (λ v. v.items) c.self.inside.full.items in
    let q = c.args.place / 1024 in
    let within : q < length c.self.inside.full.items = omega (arith, c.if-segment-len.true, c.len.ensures, c.self.inside.full.ok) in
    let at = full_at _ (λ v. v.items) c.self.inside.full.items c.index_mut.result.now q c.self.invariant.lengths within c.index_mut.ensures.value in
    let long : length c.replace_in.new.entries.items ≡ 1024 = ap length c.replace_in.ensures.items ∙ length-set c.index_mut.result.now.items (c.args.place % 1024) c.args.entry ∙ at.0 in
    let now = map-set (λ v. v.items) c.self.inside.full.items q c.replace_in.new.entries in
    record {
      lengths = subst AreFull (sym now) (All-set (λ l. length l ≡ 1024) full q c.replace_in.new.entries.items long c.self.invariant.lengths);
      rest = c.self.invariant.rest;
      few = omega (arith, ap length now, length-set full q c.replace_in.new.entries.items, c.self.invariant.few);
    }

pub returns-then-segment-len-clause-old : goal.returns-then-segment-len-clause-old
returns-then-segment-len-clause-old g c =
    let full = map (λ v. v.items) c.self.inside.full.items in
    let last = c.self.inside.last.items in
    let q = c.args.place / 1024 in
    let r = c.args.place % 1024 in
    let within : q < length c.self.inside.full.items = omega (arith, c.if-segment-len.true, c.len.ensures, c.self.inside.full.ok) in
    let at = full_at _ (λ v. v.items) c.self.inside.full.items c.index_mut.result.now q c.self.invariant.lengths within c.index_mut.ensures.value in
    ap (λ (s : SegmentedView _). slice_get s.items c.args.place) (sym c.self.view_is)
    ∙ ap (slice_get (joined full last)) (sym (div-add-mod' c.args.place 1024))
    ∙ get_full full last q r c.index_mut.result.now.items c.self.invariant.lengths (omega (arith, within, length-map c.self.inside.full.items (λ v. v.items))) (omega arith)
    ∙ ap (λ (l : List _). slice_get l r) at.1
    ∙ c.replace_in.ensures.old

pub returns-then-segment-len-clause-items : goal.returns-then-segment-len-clause-items
returns-then-segment-len-clause-items g c =
    let full = map (λ v. v.items) c.self.inside.full.items in
    let last = c.self.inside.last.items in
    let q = c.args.place / 1024 in
    let r = c.args.place % 1024 in
    let was = c.index_mut.result.now.items in
    let within : q < length c.self.inside.full.items = omega (arith, c.if-segment-len.true, c.len.ensures, c.self.inside.full.ok) in
    let at = full_at _ (λ v. v.items) c.self.inside.full.items c.index_mut.result.now q c.self.invariant.lengths within c.index_mut.ensures.value in
    ap (λ l. joined l last) (map-set (λ v. v.items) c.self.inside.full.items q c.replace_in.new.entries)
    ∙ ap (λ (l : List _). joined (set full q l) last) (c.replace_in.ensures.items ∙ ap (λ (l : List _). set l r c.args.entry) (sym at.1))
    ∙ set_full full last q r was c.args.entry c.self.invariant.lengths (omega (arith, within, length-map c.self.inside.full.items (λ v. v.items))) (omega arith)
    ∙ ap (λ i. set (joined full last) i c.args.entry) (div-add-mod' c.args.place 1024)
    ∙ ap (λ (s : SegmentedView _). set s.items c.args.place c.args.entry) c.self.view_is

pub replace_in-requires-2 : goal.replace_in-requires-2
replace_in-requires-2 g c =
    let full = map (λ v. v.items) c.self.inside.full.items in
    let all = length_joined full c.self.inside.last.items c.self.invariant.lengths in
    let seen = ap (λ (s : SegmentedView _). length s.items) c.self.view_is in
    omega (arith, all, seen, c.requires, div-add-mod' c.args.place 1024, c.if-segment-len.false, c.len.ensures, c.self.inside.full.ok, c.self.invariant.rest, length-map c.self.inside.full.items (λ v. v.items))

pub returns-clause-old : goal.returns-clause-old
returns-clause-old g c =
    let full = map (λ v. v.items) c.self.inside.full.items in
    let last = c.self.inside.last.items in
    let r = c.args.place % 1024 in
    let all = length_joined full last c.self.invariant.lengths in
    let seen = ap (λ (s : SegmentedView _). length s.items) c.self.view_is in
    let is : c.args.place ≡ length full * 1024 + r = omega (arith, all, seen, c.requires, div-add-mod' c.args.place 1024, c.if-segment-len.false, c.len.ensures, c.self.inside.full.ok, c.self.invariant.rest, length-map c.self.inside.full.items (λ v. v.items)) in
    ap (λ (s : SegmentedView _). slice_get s.items c.args.place) (sym c.self.view_is)
    ∙ ap (slice_get (joined full last)) is ∙ get_last full last r c.self.invariant.lengths ∙ c.replace_in-2.ensures.old

pub returns-clause-items : goal.returns-clause-items
returns-clause-items g c =
    let full = map (λ v. v.items) c.self.inside.full.items in
    let last = c.self.inside.last.items in
    let r = c.args.place % 1024 in
    let all = length_joined full last c.self.invariant.lengths in
    let seen = ap (λ (s : SegmentedView _). length s.items) c.self.view_is in
    let is : length full * 1024 + r ≡ c.args.place = omega (arith, all, seen, c.requires, div-add-mod' c.args.place 1024, c.if-segment-len.false, c.len.ensures, c.self.inside.full.ok, c.self.invariant.rest, length-map c.self.inside.full.items (λ v. v.items)) in
    ap (joined full) c.replace_in-2.ensures.items ∙ set_last full last r c.args.entry c.self.invariant.lengths
    ∙ ap (λ i. set (joined full last) i c.args.entry) is
    ∙ ap (λ (s : SegmentedView _). set s.items c.args.place c.args.entry) c.self.view_is
