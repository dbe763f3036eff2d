use Rattle.std.proofs.Common.{◌≡◌, ◌+◌, ◌-◌, ◌*◌, ◌/◌, ◌%◌, ◌<◌, ◌≤◌, ◌∙◌, ap, arith, get_or, length, map, subst, sym, take, unwrap_or, length-take}
use Rattle.std.proofs.lemmas.List.{get_or-take, length-map, length-take-le, take-map, take-take, take_all}
use Rattle.std.proofs.lemmas.List.Elements.{All-take}
use Rattle.std.proofs.Math.Nat.{div-add-mod'}
use Rattle.bw_segment.specs.Segments.{SegmentedView, joined}
use Rattle.bw_segment.proofs.SegmentsLemmas.{AreFull, full_at, length_joined, take_full, take_last}
use Rattle.bw_segment.proofs.segmented.Segmented.truncate.Goals as goal
use Rattle.bw_segment.proofs.segmented.Segmented.truncate.Goals.{After-drop-old}

-- the segment that becomes the last one, and those before it
parted : (g : _) (c : After-drop-old g) → (c.shrink_to.new.self.items ≡ take (c.args.len / 1024) c.self.inside.full.items) × (c.in-Some.last ≡ get_or c.self.inside.full.items (c.args.len / 1024) c.in-Some.last)
parted g c =
    let q = c.args.len / 1024 in
    let within : q < length c.self.inside.full.items = omega (arith, c.if-segment-len.true, c.len.ensures, c.self.inside.full.ok) in
    let next : q + 1 ≤ length c.self.inside.full.items = omega (arith, within) in
    let taken = c.truncate.ensures.items in
    let at : c.truncate.new.self.len - 1 ≡ q = omega (arith, ap length taken, length-take-le (q + 1) c.self.inside.full.items next, c.truncate.new.self.ok) in
    let some : 0 < c.truncate.new.self.len = omega (arith, ap length taken, length-take-le (q + 1) c.self.inside.full.items next, c.truncate.new.self.ok) in (
      c.shrink_to.ensures.items ∙ c.pop.ensures.rest ∙ ap (λ n. take n c.truncate.new.self.items) at ∙ ap (take q) taken ∙ take-take q (q + 1) c.self.inside.full.items (omega arith),
      ap (λ o. unwrap_or o c.in-Some.last) (sym c.in-Some.is ∙ c.pop.ensures.value c.in-Some.last some)
          ∙ ap (λ n. get_or c.truncate.new.self.items n c.in-Some.last) at ∙ ap (λ l. get_or l q c.in-Some.last) taken
          ∙ get_or-take (q + 1) c.self.inside.full.items q c.in-Some.last (omega arith),
    )

-- and its entries
last_items : (g : _) (c : After-drop-old g) → c.cut.new.entries.items ≡ take (c.args.len % 1024) c.in-Some.last.items
last_items g c = c.cut.ensures ∙ ap (λ v. take (c.args.len % 1024) v.items) c.replace-old.ensures.after

pub invariant_of-self : goal.invariant_of-self
invariant_of-self g c =
    let full = map (λ v. v.items) c.self.inside.full.items in
    let q = c.args.len / 1024 in
    let within : q < length c.self.inside.full.items = omega (arith, c.if-segment-len.true, c.len.ensures, c.self.inside.full.ok) in
    let parts = parted g c in
    let at = full_at _ (λ v. v.items) c.self.inside.full.items c.in-Some.last q c.self.invariant.lengths within parts.1 in
    let now = ap (map (λ v. v.items)) parts.0 ∙ sym (take-map (λ v. v.items) q c.self.inside.full.items) in
    record {
      lengths = subst AreFull (sym now) (All-take (λ l. length l ≡ 1024) q full c.self.invariant.lengths);
      rest = omega (arith, ap length (last_items g c), length-take (c.args.len % 1024) c.in-Some.last.items, at.0);
      few = omega (arith, ap length now, length-take q full, c.self.invariant.few);
    }

pub returns-in-Some : goal.returns-in-Some
returns-in-Some g c =
    let full = map (λ v. v.items) c.self.inside.full.items in
    let last = c.self.inside.last.items in
    let q = c.args.len / 1024 in
    let r = c.args.len % 1024 in
    let within : q < length c.self.inside.full.items = omega (arith, c.if-segment-len.true, c.len.ensures, c.self.inside.full.ok) in
    let parts = parted g c in
    let at = full_at _ (λ v. v.items) c.self.inside.full.items c.in-Some.last q c.self.invariant.lengths within parts.1 in
    let now = ap (map (λ v. v.items)) parts.0 ∙ sym (take-map (λ v. v.items) q c.self.inside.full.items) in
    ap (λ l. joined l c.cut.new.entries.items) now
    ∙ ap (joined (take q full)) (last_items g c ∙ ap (take r) (sym at.1))
    ∙ take_full full last q r c.in-Some.last.items c.self.invariant.lengths (omega (arith, within, length-map c.self.inside.full.items (λ v. v.items))) (omega arith)
    ∙ ap (λ n. take n (joined full last)) (div-add-mod' c.args.len 1024)
    ∙ ap (λ (s : SegmentedView _). take c.args.len s.items) c.self.view_is

pub returns-then-segment-len-2 : goal.returns-then-segment-len-2
returns-then-segment-len-2 g c =
    let full = map (λ v. v.items) c.self.inside.full.items in
    let last = c.self.inside.last.items in
    let r = c.args.len % 1024 in
    let is : length full * 1024 + r ≡ c.args.len = omega (arith, div-add-mod' c.args.len 1024, c.if-segment-len-2.true, c.len-else-segment-len.ensures, c.self.inside.full.ok, length-map c.self.inside.full.items (λ v. v.items)) in
    ap (joined full) c.cut-then-segment-len-2.ensures ∙ take_last full last r c.self.invariant.lengths
    ∙ ap (λ n. take n (joined full last)) is
    ∙ ap (λ (s : SegmentedView _). take c.args.len s.items) c.self.view_is

pub returns-else-segment-len-2 : goal.returns-else-segment-len-2
returns-else-segment-len-2 g c =
    let full = map (λ v. v.items) c.self.inside.full.items in
    let last = c.self.inside.last.items in
    let all = length_joined full last c.self.invariant.lengths in
    let short : length (joined full last) ≤ c.args.len = omega (arith, all, div-add-mod' c.args.len 1024, c.if-segment-len.false, c.if-segment-len-2.false, c.len.ensures, c.len-else-segment-len.ensures, c.self.inside.full.ok, c.self.invariant.rest, length-map c.self.inside.full.items (λ v. v.items)) in
    sym (ap (λ (s : SegmentedView _). take c.args.len s.items) (sym c.self.view_is) ∙ take_all c.args.len (joined full last) short ∙ ap (λ (s : SegmentedView _). s.items) c.self.view_is)
