-- Searches of a tree along rising keys.
use Rattle.std.proofs.Common.{◌≡◌, ℕ, zero, suc, ◌<◌, ◌≤◌, ◌^◌, true, false, T, List, [], ◌∷◌, length, map, inl, inr, ◌⊎◌, get_or, Option, Some, None, refl, sym, ap, ◌∙◌, subst, arith}
use Rattle.std.specs.Prelude.{IfSome, slice_index, unwrap_or}
use Rattle.std.specs.Borrow.{Bor}
use Rattle.std.specs.List.{Contains}
use Rattle.std.specs.Option.{option_copied}
use Rattle.std.proofs.lemmas.Bool.{cases_lt}
use Rattle.std.proofs.lemmas.List.{length-map}
use Rattle.std.proofs.lemmas.Option.{slice_get-get_or}
use Rattle.bw_key.specs.Order.{KeyBytes}
use Rattle.bw_level.specs.declared.target.Target.{Target}
use Rattle.bw_level.specs.declared.target.Target.TheVariants.{Home}
use Rattle.bw_level.specs.declared.turns.Turn.TheVariants.{Here, Down}
use Rattle.bw_level.specs.LeafEnds.{ends_at}
use Rattle.bw_level.specs.Scans.{high_of}
use Rattle.bw_level.specs.Slots.{Slot, PageState, Body, Pairs, Children, Free, Live, IsSoundBody, IsSoundInner, body_is_leaf, children_of, level_of, slot_at}
use Rattle.bw_level.specs.Turns.{IsTurn}
use Rattle.bw_page.specs.Inners.{IsLastUpto}
use Rattle.bw_level.specs.Levels.{AreLevels, row}
use Rattle.bw_level.specs.Changes.{Bases}
use Rattle.bw_chain.specs.Chains.{Records, Ends, slot_of_word, slots_of}
use Rattle.bw_level.specs.Reading.{writes_over}
use Rattle.bw_level.specs.Searches.{IsInLevels, IsSearching}
use Rattle.bw_level.specs.Targets.{AreAtHome, IsTurnFor, lies_from}
use Rattle.bw_chain.proofs.ChainLemmas.{no_record}
use Rattle.bw_level.proofs.LeafEndLemmas.{ends_here}
use Rattle.bw_level.proofs.MarkLemmas.{key_stands, mark, mark_stands}
use Rattle.bw_chain.proofs.ReadingLemmas.{none_at_base, read_is, slot_of_head}
use Rattle.bw_level.proofs.RouteLemmas.{held}
use Rattle.bw_level.proofs.RowLemmas.{in_row}
use Rattle.bw_level.proofs.SearchLemmas.{begins, ends_home, held_there, in_levels}
use Rattle.bw_look.specs.Routing.{IsFound, IsFoundEnd, IsInnerPage}
use Rattle.bw_look.specs.View.{TreeView}
use Rattle.bw_look.specs.Trees.{IsStanding, StageWords, view_of}

-- a search begins where it may, or at the root
pub begins_at : (slots : List Slot) (root : ℕ) (levels : List (List ℕ)) → AreLevels slots root levels → (target : Target) (start : Option ℕ) → IfSome start (IsSearching slots levels target) → IsSearching slots levels target (unwrap_or start root)
begins_at slots root levels lawful target None there = begins slots root levels lawful target
begins_at slots root levels lawful target (Some p) there = there

-- what is known of the mapping word of a page of a level
pub record PageAt (tree : TreeView) (heads : List ℕ) (bases : Bases) (records : Records) (p head : ℕ) : Type 0 where
  pub there : p < length heads
  pub slot : slot_at tree.slots p ≡ slot_of_word bases records head
  pub ends : Ends bases records head

pub at_head : (heads : List ℕ) (bases : Bases) (records : Records) (root next bound : ℕ) (staged : Option StageWords) (tree : TreeView) (p head : ℕ) → view_of heads bases records root next staged ≡ tree → IsStanding heads bases records root bound → p < length heads → head ≡ get_or heads p head → PageAt tree heads bases records p head
at_head heads bases records root next bound staged tree p head is t there read = record {
  there = there;
  slot = ap (λ (v : TreeView). slot_at v.slots p) (sym is) ∙ slot_of_head bases records heads p head there ∙ ap (slot_of_word bases records) (sym read);
  ends = t.ends p head (read_is heads p head there read);
}

-- a page behind all mapping words is free
pub slot_past : (f : ℕ → Slot) (heads : List ℕ) (p : ℕ) → length heads ≤ p → slot_at (map f heads) p ≡ Free
slot_past f [] p le = refl
slot_past f (h ∷ heads) zero le = absurd (omega arith)
slot_past f (h ∷ heads) (suc p) le = slot_past f heads p (omega arith)

-- no write lies over a page whose mapping word names a base page
pub none_on : (heads : List ℕ) (bases : Bases) (records : Records) (root next : ℕ) → IsStanding heads bases records root next → (p : ℕ) → slice_index heads p < 2 ^ 32 → writes_over (slot_at (slots_of heads bases records) p) ≡ []
none_on heads bases records root next t p low = by (cases_lt p (length heads))
  where
    by : (p < length heads) ⊎ (length heads ≤ p) → writes_over (slot_at (slots_of heads bases records) p) ≡ []
    by (inl lt) =
        let word = slice_index heads p in
        ap writes_over (slot_of_head bases records heads p 0 lt)
        ∙ none_at_base bases records word (t.ends p word (slice_get-get_or heads p 0 lt)) (no_record records word low)
    by (inr ge) = ap writes_over (slot_past (slot_of_word bases records) heads p ge)

not_free : {s : PageState} → Free ≡ Live s → ⊥
not_free e = cc

-- so has a page at which a search stands
pub searched_there : (heads : List ℕ) (bases : Bases) (records : Records) (root next bound : ℕ) (staged : Option StageWords) (tree : TreeView) (target : Target) (p : ℕ) → view_of heads bases records root next staged ≡ tree → IsStanding heads bases records root bound → T (lies_from target []) → IsSearching tree.slots tree.levels target p → p < length heads
searched_there heads bases records root next bound staged tree target p is t starts on =
    let lawful : AreLevels tree.slots root tree.levels = subst (λ (v : TreeView). AreLevels v.slots root v.levels) is t.lawful in
    let lt = held_there tree.slots root tree.levels lawful target starts p on in
    let size : length (slots_of heads bases records) ≡ length tree.slots = ap (λ (v : TreeView). length v.slots) is in
    omega (arith, lt, size, length-map heads (slot_of_word bases records))

pub searched_at_head : (heads : List ℕ) (bases : Bases) (records : Records) (root next bound : ℕ) (staged : Option StageWords) (tree : TreeView) (target : Target) (p head : ℕ) → view_of heads bases records root next staged ≡ tree → IsStanding heads bases records root bound → T (lies_from target []) → IsSearching tree.slots tree.levels target p → head ≡ get_or heads p head → PageAt tree heads bases records p head
searched_at_head heads bases records root next bound staged tree target p head is t starts on read =
    at_head heads bases records root next bound staged tree p head is t (searched_there heads bases records root next bound staged tree target p is t starts on) read

-- where a search ends at the page at which it stands, what it is for is at home there
pub found_end : (heads : List ℕ) (bases : Bases) (records : Records) (root next bound : ℕ) (staged : Option StageWords) (tree : TreeView) (target : Target) (p head : ℕ) (end : Option (Bor KeyBytes)) → view_of heads bases records root next staged ≡ tree → IsStanding heads bases records root bound → IsSearching tree.slots tree.levels target p → PageAt tree heads bases records p head → option_copied end ≡ high_of (slot_of_word bases records head) → ends_at target (slot_of_word bases records head) ≡ true → IsFoundEnd tree target p end
found_end heads bases records root next bound staged tree target p head end is t on at high ends =
    let lawful : AreLevels tree.slots root tree.levels = subst (λ (v : TreeView). AreLevels v.slots root v.levels) is t.lawful in
    let here : IsTurnFor target (slot_at tree.slots p) Here = subst (λ (o : Slot). IsTurnFor target o Here) (sym at.slot) (ends_here target (slot_of_word bases records head) ends) in
    record {
      homes = ends_home tree.slots root tree.levels lawful target p on here;
      there = subst (λ (v : TreeView). p < length v.heads) is at.there;
      is = high ∙ ap high_of (sym at.slot);
    }

-- a page of a level has a mapping word
pub page_there : (heads : List ℕ) (bases : Bases) (records : Records) (root next bound : ℕ) (staged : Option StageWords) (tree : TreeView) (p : ℕ) → view_of heads bases records root next staged ≡ tree → IsStanding heads bases records root bound → IsInLevels tree.levels p → p < length heads
page_there heads bases records root next bound staged tree p is t on =
    let lawful : AreLevels tree.slots root tree.levels = subst (λ (v : TreeView). AreLevels v.slots root v.levels) is t.lawful in
    let at = in_row tree.slots on.level _ (row tree.levels on.level) on.in_level.0 p (lawful.rows on.level on.within) on.in_level.1 on.in_level.2 in
    let lt : p < length tree.slots = held tree.slots p (λ free. not_free (sym free ∙ at.stands.is)) in
    let size : length (slots_of heads bases records) ≡ length tree.slots = ap (λ (v : TreeView). length v.slots) is in
    omega (arith, lt, size, length-map heads (slot_of_word bases records))

pub page_at_head : (heads : List ℕ) (bases : Bases) (records : Records) (root next bound : ℕ) (staged : Option StageWords) (tree : TreeView) (p head : ℕ) → view_of heads bases records root next staged ≡ tree → IsStanding heads bases records root bound → IsInLevels tree.levels p → head ≡ get_or heads p head → PageAt tree heads bases records p head
page_at_head heads bases records root next bound staged tree p head is t on read =
    at_head heads bases records root next bound staged tree p head is t (page_there heads bases records root next bound staged tree p is t on) read

-- an inner page of a tree is sound
pub inner_sound : (tree : TreeView) (root p : ℕ) → AreLevels tree.slots root tree.levels → IsInnerPage tree p → IsSoundInner (slot_at tree.slots p)
inner_sound tree root p lawful inner =
    let on = inner.in_levels in
    let st = (in_row tree.slots on.level _ (row tree.levels on.level) on.in_level.0 p (lawful.rows on.level on.within) on.in_level.1 on.in_level.2).stands in
    subst IsSoundInner (sym st.is) (above st.state.body st.at_level, st.sound)
  where
    above : (b : Body) → level_of b ≡ inner.in_levels.level → body_is_leaf b ≡ false
    above (Pairs pairs writes) level = absurd (omega (arith, level, inner.raised))
    above (Children n children) level = refl

-- so is what its mapping word leads to
pub sound_there : (heads : List ℕ) (bases : Bases) (records : Records) (root next bound : ℕ) (staged : Option StageWords) (tree : TreeView) (p head : ℕ) → view_of heads bases records root next staged ≡ tree → IsStanding heads bases records root bound → IsInnerPage tree p → head ≡ get_or heads p head → IsSoundInner (slot_of_word bases records head)
sound_there heads bases records root next bound staged tree p head is t inner read =
    let lawful : AreLevels tree.slots root tree.levels = subst (λ (v : TreeView). AreLevels v.slots root v.levels) is t.lawful in
    subst IsSoundInner (page_at_head heads bases records root next bound staged tree p head is t inner.in_levels read).slot (inner_sound tree root p lawful inner)

-- the home of a key, with its end
pub home_found : (tree : TreeView) (key : Bor KeyBytes) (p : ℕ) (end : Option (Bor KeyBytes)) → AreAtHome tree.slots tree.levels (Home key) p → p < length tree.heads → option_copied end ≡ high_of (slot_at tree.slots p) → IsFound tree key.now (option_copied end) p
home_found tree key p end homes there is = record {
  home = homes key.now (key_stands tree.slots (Home key) key.now (λ k. refl));
  there = there;
  is = is;
}

-- which is a leaf
pub home_in_row : (tree : TreeView) (key : Bor KeyBytes) (p : ℕ) → AreAtHome tree.slots tree.levels (Home key) p → Contains (row tree.levels 0) p
home_in_row tree key p homes = (homes key.now (key_stands tree.slots (Home key) key.now (λ k. refl))).reached.in_level

-- a search goes down from an inner page
pub inner_above : (tree : TreeView) (root : ℕ) (target : Target) → AreLevels tree.slots root tree.levels → T (lies_from target []) → (p q : ℕ) → IsSearching tree.slots tree.levels target p → IsTurnFor target (slot_at tree.slots p) (Down q) → IsInnerPage tree p
inner_above tree root target lawful starts p q on down =
    let levels = in_levels tree.slots root tree.levels lawful target starts p q on down in
    let st = (in_row tree.slots levels.level _ (row tree.levels levels.level) levels.in_level.0 p (lawful.rows levels.level levels.within) levels.in_level.1 levels.in_level.2).stands in
    let turn = subst (λ (o : Slot). IsTurn o (mark tree.slots target) (Down q)) st.is (down (mark tree.slots target) (mark_stands tree.slots target starts p)) in
    record { in_levels = levels; raised = raised levels.level st.state.low st.state.high st.state.side st.state.body st.sound st.at_level turn.1 }
  where
    raised : (level : ℕ) (low : KeyBytes) (high : Option KeyBytes) (side : Option ℕ) (b : Body) → IsSoundBody low high side b → level_of b ≡ level → IsLastUpto (mark tree.slots target) (children_of b) q → 0 < level
    raised level low high side (Pairs pairs writes) sound same last = absurd (omega (arith, last.named.1))
    raised level low high side (Children n children) sound same last = omega (arith, sound.raised, same)
