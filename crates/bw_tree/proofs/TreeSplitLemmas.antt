-- A split of a page leaves a tree that holds the same.
use Rattle.std.proofs.Common.{set, ◌≡◌, ℕ, ◌+◌, ◌<◌, ◌≤◌, ◌^◌, List, [], ◌∷◌, ◌++◌, length, max, Option, Some, None, refl, sym, ap, ◌∙◌, subst, arith, length-append}
use Rattle.std.proofs.lemmas.Option.{slice_get-get_or}
use Rattle.std.proofs.lemmas.List.{get_or-set_other, get_or-set_same, length-map, length-set}
use Rattle.std.specs.List.{Contains}
use Rattle.std.specs.Prelude.{slice_get, slice_index}
use Rattle.bw_page.specs.declared.pages.Page.{Page}
use Rattle.bw_delta.specs.declared.deltas.Delta.{Delta}
use Rattle.bw_delta.specs.declared.deltas.Delta.TheVariants.{Split}
use Rattle.bw_level.specs.Changes.{Bases, change, plain}
use Rattle.bw_chain.specs.Chains.{AllEnd, ChainsView, Records, slot_of_word}
use Rattle.bw_level.specs.Slots.{Slot, PageState, Body, Free, Live, slot_at}
use Rattle.bw_level.specs.Laws.{KeepsAll}
use Rattle.bw_level.specs.Levels.{row}
use Rattle.bw_chain.specs.Placing.{put_at}
use Rattle.bw_level.specs.Reading.{body_writes, writes_over}
use Rattle.bw_level.specs.Searches.{IsInLevels}
use Rattle.bw_level.specs.Splits.{IsParted, entry_count, left_part, level_parted, put_behind, right_part, separator, slot_entries, slot_left, slot_right, slot_separator}
use Rattle.bw_chain.specs.Restructuring.{IsCut}
use Rattle.bw_chain.specs.Supports.{OwnBases}
use Rattle.bw_chain.proofs.AdditionLemmas.{page_all_end, page_others, page_own, page_there, record_all_end, record_here, record_others, record_own}
use Rattle.bw_chain.proofs.ChainLemmas.{no_record, on_base}
use Rattle.bw_chain.proofs.InPlaceLemmas.{now_end, now_here, now_others, now_own}
use Rattle.bw_chain.proofs.PlacingLemmas.{length_put}
use Rattle.bw_chain.proofs.ReadingLemmas.{no_writes_on_base, slot_of_head}
use Rattle.bw_level.proofs.RouteLemmas.{held}
use Rattle.bw_level.proofs.RowLemmas.{InRow, in_row}
use Rattle.bw_level.proofs.SplitLemmas.{cut_is, has_new, parts_kept}
use Rattle.bw_tree.specs.Identifiers.{IsUnused}
use Rattle.bw_tree.specs.TreeSplits.{IsSplit, IsSplittable}
use Rattle.bw_look.specs.Trees.{ArePlaced, IsStanding, IsTree, StageWords, view_of}
use Rattle.bw_look.specs.View.{StageView, TreeView}
use Rattle.bw_tree.proofs.StandingLemmas.{contents_same, placed_added, placed_set, same_levels as levels_same, standing_kept, word_of_new, words_but_new}

not_free : {s : PageState} → Free ≡ Live s → ⊥
not_free e = cc

module _ (heads : List ℕ) (bases : Bases) (records : Records) (root next : ℕ) (t : IsStanding heads bases records root next) (p keep : ℕ) (ok : IsSplittable (view_of heads bases records root next None) p keep) (left right : Page) (first : plain left ≡ slot_left keep (slot_of_word bases records (slice_index heads p))) (others : plain right ≡ slot_right keep (slot_of_word bases records (slice_index heads p))) (q : ℕ) (new_one : IsUnused (view_of heads bases records root next None) q) (few : q < 2 ^ 32) (few_records : length records < 2 ^ 32) where
  abbrev old : TreeView
  old = view_of heads bases records root next None

  abbrev word : ℕ
  word = slice_index heads p

  at : InRow old.slots ok.level (row old.levels ok.level) ok.in_level.0 p
  at = in_row old.slots ok.level [] (row old.levels ok.level) ok.in_level.0 p (t.lawful.rows ok.level ok.within) ok.in_level.1 ok.in_level.2

  abbrev was : PageState
  was = at.stands.state

  within : p < length heads
  within = omega (arith, held old.slots p (λ free. not_free (sym free ∙ at.stands.is)), length-map heads (slot_of_word bases records))

  at_p : slice_get heads p ≡ Some word
  at_p = slice_get-get_or heads p 0 within

  abbrev delta : Delta
  delta = Split (slot_separator keep (slot_of_word bases records word)) q

  -- the base page was cut before the record came over it
  abbrev bases1 : Bases
  bases1 = set bases word (Some left)

  abbrev records' : Records
  records' = records ++ (delta, word) ∷ []

  abbrev new_word : ℕ
  new_word = 2 ^ 32 + length records

  abbrev heads1 : List ℕ
  heads1 = set heads p new_word

  abbrev heads' : List ℕ
  heads' = put_at heads1 q q

  abbrev bases' : Bases
  bases' = put_at bases1 q (Some right)

  abbrev new : TreeView
  new = view_of heads' bases' records' root next None

  pages1 : length heads1 ≡ length heads
  pages1 = length-set heads p new_word

  place : q ≤ length heads1
  place = omega (arith, new_one.place, pages1)

  -- the page that parts isn't the new one
  apart : p ≡ q → ⊥
  apart same = not_free (sym new_one.free ∙ ap (slot_at old.slots) (sym same) ∙ at.stands.is)

  ends0 : AllEnd bases1 records heads
  ends0 = now_end heads bases records t.ends t.own p word at_p ok.plain left

  own0 : OwnBases heads bases1 records
  own0 = now_own heads bases records t.ends t.own p word at_p ok.plain left

  ends1 : AllEnd bases1 records' heads1
  ends1 = record_all_end heads bases1 records ends0 own0 p word at_p ok.plain delta refl

  own1 : OwnBases heads1 bases1 records'
  own1 = record_own heads bases1 records ends0 own0 p word at_p ok.plain delta refl

  here : slot_of_word bases records word ≡ Live was
  here = sym (slot_of_head bases records heads p 0 within) ∙ at.stands.is

  fewer : keep < entry_count was.body
  fewer = subst (λ (o : Slot). keep < slot_entries o) at.stands.is ok.fewer

  bare : body_writes was.body ≡ []
  bare =
      ap writes_over (sym at.stands.is)
      ∙ ap writes_over (slot_of_head bases records heads p 0 within ∙ on_base bases records word (t.ends p word at_p) (no_record records word ok.plain))
      ∙ no_writes_on_base (slice_get bases word)

  left_now : slot_at new.slots p ≡ Live (left_part keep q was)
  left_now =
      page_others heads1 bases1 records' ends1 own1 q place few right p apart
      ∙ record_here heads bases1 records ends0 own0 p word at_p ok.plain delta refl
      ∙ ap (change bases1 delta) (now_here heads bases records t.ends t.own p word at_p ok.plain left ∙ first)
      ∙ ap (λ (o : Slot). change bases1 (Split (slot_separator keep o) q) (slot_left keep o)) here
      ∙ ap (λ (b : Body). Live (record { low = was.low; high = Some (separator keep was.body); side = Some q; body = b })) (cut_is was.low was.high was.side keep was.body at.stands.sound fewer)

  right_now : slot_at new.slots q ≡ Live (right_part keep was)
  right_now =
      page_there heads1 bases1 records' ends1 own1 q place few right
      ∙ others ∙ ap (slot_right keep) here

  parted : IsParted old.slots new.slots p q keep
  parted = record {
    was = was;
    is = at.stands.is;
    bare = bare;
    free = new_one.free;
    some = ok.some;
    fewer = fewer;
    left = left_now;
    right = right_now;
    others = λ r other old_one.
        page_others heads1 bases1 records' ends1 own1 q place few right r old_one
        ∙ record_others heads bases1 records ends0 own0 p word at_p ok.plain delta refl r other
        ∙ now_others heads bases records t.ends t.own p word at_p ok.plain left r other;
  }

  kept : (level : ℕ) → level < length old.levels → Contains (row old.levels level) p → KeepsAll old.slots new.slots root old.levels (level_parted old.levels level p q)
  kept level lt has = parts_kept old.slots new.slots root old.levels level p q keep t.lawful lt has ok.live parted

  same_levels : (level : ℕ) → level < length old.levels → Contains (row old.levels level) p → new.levels ≡ level_parted old.levels level p q
  same_levels level lt has = levels_same heads bases records root next t heads' bases' records' root (level_parted old.levels level p q) (kept level lt has)

  abbrev after : List (List ℕ)
  after = level_parted old.levels ok.level p q

  still_in : (r : ℕ) → IsInLevels old.levels r → IsInLevels after r
  still_in r on = record {
    level = on.level;
    within = omega (arith, on.within, length-set old.levels ok.level (put_behind p q (row old.levels ok.level)));
    in_level = has_new old.slots new.slots root old.levels ok.level p q keep t.lawful ok.within ok.in_level ok.live parted on.level r on.in_level;
  }

  placed_new : ArePlaced heads' after
  placed_new = placed_added heads1 after q place few
      (placed_set heads after p new_word within (λ high. still_in p (record { level = ok.level; within = ok.within; in_level = ok.in_level }))
      (λ r lt high. still_in r (t.placed r lt high)))

  pub standing_new : IsStanding heads' bases' records' root next
  standing_new = standing_kept heads bases records root next t heads' bases' records' root after (kept ok.level ok.within ok.in_level)
      (page_all_end heads1 bases1 records' ends1 own1 q place few right)
      own_new
      (omega (arith, few_records, length-append records ((delta, word) ∷ [])))
      few_now
      (omega (arith, few_now, own_new.count))
      placed_new
    where
      own_new : OwnBases heads' bases' records'
      own_new = page_own heads1 bases1 records' ends1 own1 q place few right

      few_now : length heads' ≤ 2 ^ 32
      few_now = omega (arith, few, t.few_pages, pages1, length_put heads1 q q place)

  pub split_new : IsSplit old new p keep q
  split_new = record {
    parted = parted;
    levels = same_levels;
    contents = contents_same heads bases records root next t heads' bases' records' root (level_parted old.levels ok.level p q) (kept ok.level ok.within ok.in_level);
    unused = new_one;
    pages = length_put heads1 q q place ∙ ap (λ n. max n (q + 1)) pages1;
    heads = λ r other old_one. words_but_new heads1 q r place old_one ∙ get_or-set_other heads p r new_word 0 other;
    changed = omega (arith, words_but_new heads1 q p place apart, get_or-set_same heads p new_word 0 within);
    plain = omega (arith, few, word_of_new heads1 q place);
    root = refl;
    records = omega (arith, length-append records ((delta, word) ∷ []));
    next = refl;
    staged = refl;
  }

-- a page that may be split is one of a level
pub in_levels : (tree : TreeView) (p keep : ℕ) → IsSplittable tree p keep → IsInLevels tree.levels p
in_levels tree p keep ok = record { level = ok.level; within = ok.within; in_level = ok.in_level }

-- so is a tree whose page was given the record, and that has the new page
module _ (heads : List ℕ) (bases : Bases) (records : Records) (root next : ℕ) (tree : TreeView) (is : view_of heads bases records root next None ≡ tree) (t : IsTree heads bases records root next None) (p keep : ℕ) (ok : IsSplittable tree p keep) where
  ok_here : IsSplittable (view_of heads bases records root next None) p keep
  ok_here = subst (λ (v : TreeView). IsSplittable v p keep) (sym is) ok

  abbrev word_under : ℕ
  word_under = slice_index heads p

  abbrev slot_there : Slot
  slot_there = slot_of_word bases records word_under

  abbrev chains : ChainsView
  chains = record { bases = bases; records = records }

  abbrev IsMade : List ℕ → Bases → Records → ℕ → Type 0
  IsMade h b r q = IsTree h b r root next None × IsSplit tree (view_of h b r root next None) p keep q

  unused_here : (q : ℕ) → IsUnused tree q → IsUnused (view_of heads bases records root next None) q
  unused_here q = subst (λ (v : TreeView). IsUnused v q) (sym is)

  abbrev record_over : ℕ → Records
  record_over q = records ++ (Split (slot_separator keep slot_there) q, word_under) ∷ []

  made_here : (left right : Page) → plain left ≡ slot_left keep slot_there → plain right ≡ slot_right keep slot_there → (q : ℕ) → IsUnused tree q → q < 2 ^ 32 → length records < 2 ^ 32 →
      IsMade (put_at (set heads p (2 ^ 32 + length records)) q q) (put_at (set bases word_under (Some left)) q (Some right)) (record_over q) q
  made_here left right first others q new_one few few_records = (
    record { now = standing_new heads bases records root next t.now p keep ok_here left right first others q (unused_here q new_one) few few_records; stage = tt },
    subst (λ (v : TreeView). IsSplit v (view_of (put_at (set heads p (2 ^ 32 + length records)) q q) (put_at (set bases word_under (Some left)) q (Some right)) (record_over q) root next None) p keep q) is
        (split_new heads bases records root next t.now p keep ok_here left right first others q (unused_here q new_one) few few_records),
  )

  made_at : (hs : List ℕ) (bs : Bases) (rs : Records) (q w : ℕ) → IsCut chains (record { bases = bs; records = rs }) word_under keep q → IsUnused tree q → q < 2 ^ 32 → length records < 2 ^ 32 →
      w ≡ 2 ^ 32 + length records → hs ≡ put_at (set heads p w) q q → IsMade hs bs rs q
  made_at hs bs rs q w cut new_one few few_records word_is heads_are =
      subst (λ (r : Records). IsMade hs bs r q) (sym cut.records)
      (subst (λ (b : Bases). IsMade hs b (record_over q) q) (sym cut.bases)
      (subst (λ (h : List ℕ). IsMade h (put_at (set bases word_under (Some cut.left)) q (Some cut.right)) (record_over q) q) (sym (heads_are ∙ ap (λ n. put_at (set heads p n) q q) word_is))
      (made_here cut.left cut.right cut.first cut.others q new_one few few_records)))

  made_on : (hs : List ℕ) (bs : Bases) (rs : Records) (q w under : ℕ) → IsCut chains (record { bases = bs; records = rs }) under keep q → IsUnused tree q → q < 2 ^ 32 → length records < 2 ^ 32 →
      w ≡ 2 ^ 32 + length records → under ≡ slice_index heads p → hs ≡ put_at (set heads p w) q q → IsMade hs bs rs q
  made_on hs bs rs q w under cut new_one few few_records word_is under_is heads_are =
      made_at hs bs rs q w (subst (λ u. IsCut chains (record { bases = bs; records = rs }) u keep q) under_is cut) new_one few few_records word_is heads_are

unstaged : {s : StageView} → Some s ≡ None → ⊥
unstaged e = cc

pub split_on : (heads : List ℕ) (bases : Bases) (records : Records) (root next : ℕ) (staged : Option StageWords) (tree : TreeView) → view_of heads bases records root next staged ≡ tree → tree.staged ≡ None → IsTree heads bases records root next staged → (p keep : ℕ) → IsSplittable tree p keep →
    (heads' : List ℕ) (bases' : Bases) (records' : Records) (q word under : ℕ) → IsCut (record { bases = bases; records = records }) (record { bases = bases'; records = records' }) under keep q → IsUnused tree q → q < 2 ^ 32 → length records < 2 ^ 32 →
    word ≡ 2 ^ 32 + length records → under ≡ slice_index heads p → heads' ≡ put_at (set heads p word) q q →
    IsTree heads' bases' records' root next staged × IsSplit tree (view_of heads' bases' records' root next staged) p keep q
split_on heads bases records root next None tree is none t p keep ok = made_on heads bases records root next tree is t p keep ok
split_on heads bases records root next (Some stage) tree is none t p keep ok = absurd (unstaged (ap (λ (v : TreeView). v.staged) is ∙ none))
