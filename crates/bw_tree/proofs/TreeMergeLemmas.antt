-- A merge of two neighbours leaves a tree that holds the same.
use Rattle.std.proofs.Common.{set, get_or, ◌≡◌, ℕ, ◌+◌, ◌<◌, ◌^◌, true, false, is_some, List, [], ◌∷◌, ◌++◌, length, Option, Some, None, refl, sym, ap, ◌∙◌, subst, arith, length-append, append_assoc}
use Rattle.std.proofs.lemmas.Option.{slice_get-get_or}
use Rattle.std.proofs.lemmas.List.{get_or-set_same, get_or_default, length-map, length-set}
use Rattle.std.specs.List.{Contains}
use Rattle.std.specs.Prelude.{slice_get, slice_index}
use Rattle.std.specs.Ordering.{is_lt}
use Rattle.bw_key.specs.Order.{KeyBytes, key_cmp}
use Rattle.bw_page.proofs.KeyLemmas.{below_self}
use Rattle.bw_page.specs.declared.pages.Page.{Page}
use Rattle.bw_delta.specs.declared.deltas.Delta.{Delta}
use Rattle.bw_delta.specs.declared.deltas.Delta.TheVariants.{Removed}
use Rattle.bw_level.specs.Changes.{Bases, based, plain}
use Rattle.bw_chain.specs.Chains.{AllEnd, ChainsView, IsShaped, Records, slot_of_word, slots_of}
use Rattle.bw_level.specs.Laws.{KeepsAll}
use Rattle.bw_level.specs.Levels.{AreLevels, row}
use Rattle.bw_level.specs.Merges.{AreNeighbours, IsMerged, IsNoFirstChild, level_merged, slot_joined, slot_removed, state_joined, without_page}
use Rattle.bw_chain.specs.Restructuring.{IsJoined, absorption}
use Rattle.bw_level.specs.Reading.{body_writes, writes_over}
use Rattle.bw_level.specs.Searches.{IsInLevels}
use Rattle.bw_level.specs.Slots.{Slot, PageState, Body, Pairs, Children, Free, Gone, Live, IsSoundBody, body_is_leaf, level_of, side_of_slot, slot_at}
use Rattle.bw_chain.specs.Supports.{OwnBases}
use Rattle.bw_chain.proofs.AdditionLemmas.{record_all_end, record_here, record_others, record_own}
use Rattle.bw_chain.proofs.ChainLemmas.{no_record, on_base}
use Rattle.bw_chain.proofs.GrowthLemmas.{append_extends}
use Rattle.bw_chain.proofs.InPlaceLemmas.{now_end, now_here, now_others, now_own}
use Rattle.bw_level.proofs.LeafRowLemmas.{low_below}
use Rattle.bw_level.proofs.MergeLemmas.{has_new, merges_kept}
use Rattle.bw_chain.proofs.ReadingLemmas.{no_writes_on_base, slot_of_head}
use Rattle.bw_level.proofs.RouteLemmas.{held}
use Rattle.bw_level.proofs.RowLemmas.{InRow, in_row}
use Rattle.bw_tree.specs.TreeMerges.{HasMerged, MayMerge}
use Rattle.bw_look.specs.Trees.{ArePlaced, IsStanding, IsTree, StageWords, view_of}
use Rattle.bw_look.specs.View.{StageView, TreeView}
use Rattle.bw_look.proofs.NeighbourLemmas.{AreBeside, beside}
use Rattle.bw_look.proofs.PageLemmas.{no_first_child}
use Rattle.bw_look.proofs.RoutingLemmas.{PageAt, page_at_head, page_there}
use Rattle.bw_tree.proofs.StageLemmas.{stands_on}
use Rattle.bw_tree.proofs.StandingLemmas.{contents_same, placed_set, same_levels as levels_same, standing_kept}

not_free : {s : PageState} → Free ≡ Live s → ⊥
not_free e = cc

one_state : {s t : PageState} → Live s ≡ Live t → s ≡ t
one_state e = cc

different : true ≡ false → ⊥
different e = cc

-- pages of one level are of one kind
one_kind : (low other_low : KeyBytes) (high other_high : Option KeyBytes) (side other_side : Option ℕ) (b c : Body) → IsSoundBody low high side b → IsSoundBody other_low other_high other_side c → level_of b ≡ level_of c → body_is_leaf b ≡ body_is_leaf c
one_kind low other_low high other_high side other_side (Pairs pairs writes) (Pairs more others) sound other level = refl
one_kind low other_low high other_high side other_side (Pairs pairs writes) (Children n children) sound other level = absurd (omega (arith, other.raised, level))
one_kind low other_low high other_high side other_side (Children n children) (Pairs more others) sound other level = absurd (omega (arith, sound.raised, level))
one_kind low other_low high other_high side other_side (Children n children) (Children m more) sound other level = refl

linked_of : (low : KeyBytes) (high : Option KeyBytes) (side : Option ℕ) (b : Body) → IsSoundBody low high side b → is_some side ≡ is_some high
linked_of low high side (Pairs pairs writes) sound = sound.page.linked
linked_of low high side (Children n children) sound = sound.page.linked

-- pages that stand side by side may be joined
pub neighbours : (slots : List Slot) (level p q : ℕ) (ps : List ℕ) (slot right : Slot) → AreBeside slots level p q ps → slot ≡ slot_at slots p → right ≡ slot_at slots q → AreNeighbours slot right
neighbours slots level p q ps slot right both is other_is =
    let s = both.left.state in
    let u = both.right.state in
    let one_level : level_of s.body ≡ level_of u.body = both.left.at_level ∙ sym both.right.at_level in
    record {
      state = s;
      is = is ∙ both.left.is;
      other = u;
      other_is = other_is ∙ both.right.is;
      meet = both.left.to_high ∙ ap Some (sym both.right.from_low);
      kind = one_kind s.low u.low s.high u.high s.side u.side s.body u.body both.left.sound both.right.sound one_level;
      level = one_level;
      linked = linked_of u.low u.high u.side u.body both.right.sound;
    }

module _ (heads : List ℕ) (bases : Bases) (records : Records) (root next : ℕ) (t : IsStanding heads bases records root next) (p q : ℕ) (ok : MayMerge (view_of heads bases records root next None) p q) (page removed : Page) (joined : plain page ≡ slot_joined (slot_of_word bases records (slice_index heads p)) (slot_of_word bases records (slice_index heads q))) (gone : plain removed ≡ slot_removed p (slot_of_word bases records (slice_index heads q))) (few : length records + 1 < 2 ^ 32) where
  abbrev old : TreeView
  old = view_of heads bases records root next None

  abbrev word : ℕ
  word = slice_index heads p

  abbrev right_word : ℕ
  right_word = slice_index heads q

  at : InRow old.slots ok.level (row old.levels ok.level) ok.in_level.0 p
  at = in_row old.slots ok.level [] (row old.levels ok.level) ok.in_level.0 p (t.lawful.rows ok.level ok.within) ok.in_level.1 ok.in_level.2

  both : AreBeside old.slots ok.level p q (row old.levels ok.level)
  both = beside old.slots ok.level p q (row old.levels ok.level) ok.in_level.0 at ok.linked

  abbrev left : PageState
  left = both.left.state

  abbrev right : PageState
  right = both.right.state

  apart : p ≡ q → ⊥
  apart same = different (
      sym (low_below old.slots ok.level both.low both.key (Some q) p both.left)
      ∙ ap (λ (k : KeyBytes). is_lt (key_cmp both.low k)) one_low
      ∙ below_self both.low)
    where
      one_low : both.key ≡ both.low
      one_low =
          sym both.right.from_low
          ∙ ap (λ (s : PageState). s.low) (one_state (sym both.right.is ∙ ap (slot_at old.slots) (sym same) ∙ both.left.is))
          ∙ both.left.from_low

  there : (x : ℕ) (s : PageState) → slot_at old.slots x ≡ Live s → x < length heads
  there x s is = omega (arith, held old.slots x (λ free. not_free (sym free ∙ is)), length-map heads (slot_of_word bases records))

  within : p < length heads
  within = there p left both.left.is

  right_within : q < length heads
  right_within = there q right both.right.is

  at_p : slice_get heads p ≡ Some word
  at_p = slice_get-get_or heads p 0 within

  at_q : slice_get heads q ≡ Some right_word
  at_q = slice_get-get_or heads q 0 right_within

  here : slot_of_word bases records word ≡ Live left
  here = sym (slot_of_head bases records heads p 0 within) ∙ both.left.is

  right_here : slot_of_word bases records right_word ≡ Live right
  right_here = sym (slot_of_head bases records heads q 0 right_within) ∙ both.right.is

  -- a page without a record has no writes
  bare_at : (x w : ℕ) (s : PageState) → slice_get heads x ≡ Some w → w < 2 ^ 32 → slot_of_word bases records w ≡ Live s → body_writes s.body ≡ []
  bare_at x w s at_x low is =
      ap writes_over (sym is ∙ on_base bases records w (t.ends x w at_x) (no_record records w low)) ∙ no_writes_on_base (slice_get bases w)

  abbrev note : Delta
  note = Removed p

  abbrev records1 : Records
  records1 = records ++ (note, right_word) ∷ []

  -- the record of the removal, which no chain names, leaves all pages as they are
  noted : (slots_of heads bases records1 ≡ slots_of heads bases records) × IsStanding heads bases records1 root next
  noted = stands_on heads bases records records1 root next next t (append_extends records ((note, right_word) ∷ [])) (omega (arith, length-append records ((note, right_word) ∷ []))) (omega arith) t.fits (omega (arith, few, length-append records ((note, right_word) ∷ [])))

  abbrev t1 : IsStanding heads bases records1 root next
  t1 = noted.1

  abbrev bases1 : Bases
  bases1 = set bases word (Some page)

  abbrev bases2 : Bases
  bases2 = set bases1 right_word (Some removed)

  ends1 : AllEnd bases1 records1 heads
  ends1 = now_end heads bases records1 t1.ends t1.own p word at_p ok.plain page

  own1 : OwnBases heads bases1 records1
  own1 = now_own heads bases records1 t1.ends t1.own p word at_p ok.plain page

  ends2 : AllEnd bases2 records1 heads
  ends2 = now_end heads bases1 records1 ends1 own1 q right_word at_q ok.other_plain removed

  own2 : OwnBases heads bases2 records1
  own2 = now_own heads bases1 records1 ends1 own1 q right_word at_q ok.other_plain removed

  abbrev delta : Delta
  delta = absorption right_word (slot_of_word bases records right_word)

  -- the joined page, before the record of it
  left_under : slot_at (slots_of heads bases2 records1) p ≡ Live (state_joined left right)
  left_under =
      now_others heads bases1 records1 ends1 own1 q right_word at_q ok.other_plain removed p apart
      ∙ now_here heads bases records1 t1.ends t1.own p word at_p ok.plain page
      ∙ joined
      ∙ ap (λ (o : Slot). slot_joined o (slot_of_word bases records right_word)) here
      ∙ ap (slot_joined (Live left)) right_here

  base_is : based (slice_get bases2 word) ≡ Live (state_joined left right)
  base_is = sym (on_base bases2 records1 word (ends2 p word at_p) (no_record records1 word ok.plain)) ∙ sym (slot_of_head bases2 records1 heads p 0 within) ∙ left_under

  -- it has the right neighbour that the record names
  shaped : IsShaped (based (slice_get bases2 word)) (delta ∷ [])
  shaped = (refl, ap side_of_slot right_here ∙ sym (ap side_of_slot base_is))

  abbrev records' : Records
  records' = records1 ++ (delta, word) ∷ []

  abbrev new_word : ℕ
  new_word = 2 ^ 32 + length records1

  abbrev heads' : List ℕ
  heads' = set heads p new_word

  abbrev new : TreeView
  new = view_of heads' bases2 records' root next None

  more1 : length records1 ≡ length records + 1
  more1 = length-append records ((note, right_word) ∷ [])

  more : length records' ≡ length records + 2
  more = omega (arith, length-append records1 ((delta, word) ∷ []), more1)

  left_now : slot_at new.slots p ≡ Live (state_joined left right)
  left_now = record_here heads bases2 records1 ends2 own2 p word at_p ok.plain delta shaped ∙ left_under

  right_now : slot_at new.slots q ≡ Gone (record { left = p; level = level_of right.body; low = right.low })
  right_now =
      record_others heads bases2 records1 ends2 own2 p word at_p ok.plain delta shaped q (λ e. apart (sym e))
      ∙ now_here heads bases1 records1 ends1 own1 q right_word at_q ok.other_plain removed
      ∙ gone ∙ ap (slot_removed p) right_here

  merged : IsMerged old.slots new.slots p q
  merged = record {
    left = left;
    left_is = both.left.is;
    right = right;
    right_is = both.right.is;
    linked = both.left.linked;
    bare = bare_at p word left at_p ok.plain here;
    other_bare = bare_at q right_word right at_q ok.other_plain right_here;
    joined = left_now;
    gone = right_now;
    others = λ r other another.
        record_others heads bases2 records1 ends2 own2 p word at_p ok.plain delta shaped r other
        ∙ now_others heads bases1 records1 ends1 own1 q right_word at_q ok.other_plain removed r another
        ∙ now_others heads bases records1 t1.ends t1.own p word at_p ok.plain page r other
        ∙ ap (λ (s : List Slot). slot_at s r) noted.0;
  }

  -- one page names both, so none begins with the second one
  inner : IsNoFirstChild old.slots old.levels q
  inner = no_first_child old root t.lawful t.exact p q ok.parent (record { level = ok.level; within = ok.within; in_level = ok.in_level }, ok.linked) ok.namer ok.other_namer

  kept : (level : ℕ) → level < length old.levels → Contains (row old.levels level) p → KeepsAll old.slots new.slots root old.levels (level_merged old.levels level q)
  kept level lt has = merges_kept old.slots new.slots root old.levels level p q t.lawful lt has inner merged

  same_levels : (level : ℕ) → level < length old.levels → Contains (row old.levels level) p → new.levels ≡ level_merged old.levels level q
  same_levels level lt has = levels_same heads bases records root next t heads' bases2 records' root (level_merged old.levels level q) (kept level lt has)

  abbrev after : List (List ℕ)
  after = level_merged old.levels ok.level q

  stays_in : (r : ℕ) → (r ≡ q → ⊥) → IsInLevels old.levels r → IsInLevels after r
  stays_in r other on = record {
    level = on.level;
    within = omega (arith, on.within, length-set old.levels ok.level (without_page q (row old.levels ok.level)));
    in_level = has_new old.slots new.slots root old.levels ok.level p q t.lawful ok.within ok.in_level inner merged on.level r other on.in_level;
  }

  placed_new : ArePlaced heads' after
  placed_new = placed_set heads after p new_word within
      (λ high. stays_in p apart (record { level = ok.level; within = ok.within; in_level = ok.in_level }))
      (λ r lt high. stays_in r (λ e. omega (arith, high, ok.other_plain, ap (slice_index heads) e)) (t.placed r lt high))

  pub standing_new : IsStanding heads' bases2 records' root next
  standing_new = standing_kept heads bases records root next t heads' bases2 records' root after (kept ok.level ok.within ok.in_level)
      (record_all_end heads bases2 records1 ends2 own2 p word at_p ok.plain delta shaped)
      (record_own heads bases2 records1 ends2 own2 p word at_p ok.plain delta shaped)
      (omega (arith, few, more))
      (omega (arith, t.few_pages, length-set heads p new_word))
      (omega (arith, t.few_bases, length-set bases1 right_word (Some removed), length-set bases word (Some page)))
      placed_new

  word_now : slice_index heads' p ≡ new_word
  word_now = get_or-set_same heads p new_word 0 within

  pub merged_new : HasMerged old new p q
  merged_new = record {
    merged = merged;
    levels = same_levels;
    contents = contents_same heads bases records root next t heads' bases2 records' root after (kept ok.level ok.within ok.in_level);
    heads = ap (set heads p) (sym word_now);
    changed = omega (arith, word_now);
    root = refl;
    records = more;
    next = refl;
    staged = refl;
  }

-- the pages of a merge stand side by side
pub merge_beside : (tree : TreeView) (root p q : ℕ) → AreLevels tree.slots root tree.levels → (ok : MayMerge tree p q) → AreBeside tree.slots ok.level p q (row tree.levels ok.level)
merge_beside tree root p q lawful ok =
    beside tree.slots ok.level p q (row tree.levels ok.level) ok.in_level.0
    (in_row tree.slots ok.level [] (row tree.levels ok.level) ok.in_level.0 p (lawful.rows ok.level ok.within) ok.in_level.1 ok.in_level.2)
    ok.linked

pub right_in : (tree : TreeView) (root p q : ℕ) → AreLevels tree.slots root tree.levels → MayMerge tree p q → IsInLevels tree.levels q
right_in tree root p q lawful ok = record { level = ok.level; within = ok.within; in_level = (merge_beside tree root p q lawful ok).in_row }

-- what is known of the mapping words of both
module _ (heads : List ℕ) (bases : Bases) (records : Records) (root next bound : ℕ) (staged : Option StageWords) (tree : TreeView) (p q : ℕ) (is : view_of heads bases records root next staged ≡ tree) (t : IsStanding heads bases records root bound) (ok : MayMerge tree p q) where
  tree_lawful : AreLevels tree.slots root tree.levels
  tree_lawful = subst (λ (v : TreeView). AreLevels v.slots root v.levels) is t.lawful

  right_on : IsInLevels tree.levels q
  right_on = right_in tree root p q tree_lawful ok

  pub right_there : q < length heads
  right_there = page_there heads bases records root next bound staged tree q is t right_on

  pub left_at : (head : ℕ) → head ≡ get_or heads p head → PageAt tree heads bases records p head
  left_at head read = page_at_head heads bases records root next bound staged tree p head is t (record { level = ok.level; within = ok.within; in_level = ok.in_level }) read

  pub right_at : (head : ℕ) → head ≡ get_or heads q head → PageAt tree heads bases records q head
  right_at head read = page_at_head heads bases records root next bound staged tree q head is t right_on read

  pub word_of_right : (head : ℕ) → head ≡ get_or heads q head → head ≡ slice_index heads q
  word_of_right head read = read ∙ get_or_default heads q head 0 right_there

  pub right_low : (head : ℕ) → head ≡ get_or heads q head → head < 2 ^ 32
  right_low head read = omega (arith, word_of_right head read, subst (λ (v : TreeView). slice_index v.heads q < 2 ^ 32) (sym is) ok.other_plain)

  pub neighbours_at : (head right : ℕ) → head ≡ get_or heads p head → right ≡ get_or heads q right → AreNeighbours (slot_of_word bases records head) (slot_of_word bases records right)
  neighbours_at head right read other =
      neighbours tree.slots ok.level p q (row tree.levels ok.level) (slot_of_word bases records head) (slot_of_word bases records right)
      (merge_beside tree root p q tree_lawful ok) (sym (left_at head read).slot) (sym (right_at right other).slot)

-- so is a tree whose words and base pages were set so
module _ (heads : List ℕ) (bases : Bases) (records : Records) (root next : ℕ) (tree : TreeView) (is : view_of heads bases records root next None ≡ tree) (t : IsTree heads bases records root next None) (p q : ℕ) (ok : MayMerge tree p q) where
  abbrev IsMade : List ℕ → Bases → Records → Type 0
  IsMade h b r = IsTree h b r root next None × HasMerged tree (view_of h b r root next None) p q

  abbrev chains : ChainsView
  chains = record { bases = bases; records = records }

  abbrev left_word : ℕ
  left_word = slice_index heads p

  abbrev word_of : ℕ
  word_of = slice_index heads q

  ok_here : MayMerge (view_of heads bases records root next None) p q
  ok_here = subst (λ (v : TreeView). MayMerge v p q) (sym is) ok

  made_here : (page removed : Page) → plain page ≡ slot_joined (slot_of_word bases records left_word) (slot_of_word bases records word_of) → plain removed ≡ slot_removed p (slot_of_word bases records word_of) → length records + 1 < 2 ^ 32 →
      IsMade (set heads p (2 ^ 32 + length (records ++ (Removed p, word_of) ∷ []))) (set (set bases left_word (Some page)) word_of (Some removed)) ((records ++ (Removed p, word_of) ∷ []) ++ (absorption word_of (slot_of_word bases records word_of), left_word) ∷ [])
  made_here page removed joined gone few = (
    record { now = standing_new heads bases records root next t.now p q ok_here page removed joined gone few; stage = tt },
    subst (λ (v : TreeView). HasMerged v (view_of (set heads p (2 ^ 32 + length (records ++ (Removed p, word_of) ∷ []))) (set (set bases left_word (Some page)) word_of (Some removed)) ((records ++ (Removed p, word_of) ∷ []) ++ (absorption word_of (slot_of_word bases records word_of), left_word) ∷ []) root next None) p q) is
        (merged_new heads bases records root next t.now p q ok_here page removed joined gone few),
  )

  pub made_on : (hs : List ℕ) (bs : Bases) (rs : Records) (w under right : ℕ) → IsJoined chains (record { bases = bs; records = rs }) under right p → length records + 1 < 2 ^ 32 →
      w ≡ 2 ^ 32 + length records + 1 → under ≡ slice_index heads p → right ≡ slice_index heads q → hs ≡ set heads p w → IsMade hs bs rs
  made_on hs bs rs w under right made few word_is under_is right_is heads_are = at_words (subst (λ r. IsJoined chains (record { bases = bs; records = rs }) left_word r p) right_is (subst (λ u. IsJoined chains (record { bases = bs; records = rs }) u right p) under_is made))
    where
      at_words : IsJoined chains (record { bases = bs; records = rs }) left_word word_of p → IsMade hs bs rs
      at_words j =
          let placed : hs ≡ set heads p (2 ^ 32 + length (records ++ (Removed p, word_of) ∷ [])) =
          heads_are ∙ ap (set heads p) (omega (arith, word_is, length-append records ((Removed p, word_of) ∷ []))) in
          let listed : rs ≡ (records ++ (Removed p, word_of) ∷ []) ++ (absorption word_of (slot_of_word bases records word_of), left_word) ∷ [] =
          j.records ∙ sym (append_assoc records ((Removed p, word_of) ∷ []) ((absorption word_of (slot_of_word bases records word_of), left_word) ∷ [])) in
          subst (λ (r : Records). IsMade hs bs r) (sym listed)
          (subst (λ (b : Bases). IsMade hs b ((records ++ (Removed p, word_of) ∷ []) ++ (absorption word_of (slot_of_word bases records word_of), left_word) ∷ [])) (sym j.bases)
          (subst (λ (h : List ℕ). IsMade h (set (set bases left_word (Some j.page)) word_of (Some j.removed)) ((records ++ (Removed p, word_of) ∷ []) ++ (absorption word_of (slot_of_word bases records word_of), left_word) ∷ [])) (sym placed)
          (made_here j.page j.removed j.joined j.gone few)))

unstaged : {s : StageView} → Some s ≡ None → ⊥
unstaged e = cc

pub merged_on : (heads : List ℕ) (bases : Bases) (records : Records) (root next : ℕ) (staged : Option StageWords) (tree : TreeView) → view_of heads bases records root next staged ≡ tree → tree.staged ≡ None → IsTree heads bases records root next staged → (p q : ℕ) → MayMerge tree p q →
    (heads' : List ℕ) (bases' : Bases) (records' : Records) (word under right : ℕ) → IsJoined (record { bases = bases; records = records }) (record { bases = bases'; records = records' }) under right p → length records + 1 < 2 ^ 32 →
    word ≡ 2 ^ 32 + length records + 1 → under ≡ slice_index heads p → right ≡ slice_index heads q → heads' ≡ set heads p word →
    IsTree heads' bases' records' root next staged × HasMerged tree (view_of heads' bases' records' root next staged) p q
merged_on heads bases records root next None tree is none t p q ok = made_on heads bases records root next tree is t p q ok
merged_on heads bases records root next (Some stage) tree is none t p q ok = absurd (unstaged (ap (λ (v : TreeView). v.staged) is ∙ none))
