-- A page that its left neighbour absorbs leaves a lawful tree that holds the same.
use Rattle.std.proofs.Common.{inl, inr, ◌⊎◌, ◌≡◌, ℕ, zero, suc, ◌<◌, Bool, true, false, cond, nat_eq, T, List, [], ◌∷◌, ◌++◌, length, get_or, Option, Some, None, refl, sym, ap, ◌∙◌, subst, arith}
use Rattle.std.proofs.lemmas.Bool.{cases_eq}
use Rattle.std.proofs.lemmas.Bool.Decides.{nat_tests}
use Rattle.std.proofs.lemmas.List.{get_or-set_same, get_or-set_other, length-set}
use Rattle.std.specs.List.{Contains, list_all}
use Rattle.std.specs.Option.{option_or}
use Rattle.std.specs.Ordering.{is_lt}
use Rattle.std.specs.FinMap.{find}
use Rattle.bw_key.specs.Order.{KeyBytes, key_cmp}
use Rattle.bw_model.specs.Contents.{is_below_end, is_in_range}
use Rattle.bw_page.specs.declared.pages.RemovedPage.{RemovedPage}
use Rattle.bw_page.specs.Inners.{IsUpto}
use Rattle.bw_page.proofs.Entries.{joined_page, joined_inner_page}
use Rattle.bw_page.proofs.KeyLemmas.{below_back, below_self, below_trans, below_upto, upto_trans}
use Rattle.bw_page.proofs.Truths.{holds, true_holds, holds_not, not_holds, left_of as left_of_both, right_of as right_of_both}
use Rattle.bw_delta.specs.Batches.{writes_to}
use Rattle.bw_delta.specs.History.{HasDistinctStamps, history, action_at}
use Rattle.bw_delta.specs.Writes.{WriteView}
use Rattle.bw_level.specs.Entries.{AreExact}
use Rattle.bw_level.specs.Laws.{MergesAreKept}
use Rattle.bw_level.specs.Levels.{AreLevels, BeginsWith, FirstChild, IsHome, LeadsBelow, SideBySide, Stands, StartsWith, row}
use Rattle.bw_level.specs.Merges.{IsNoFirstChild, IsMerged, bodies_joined, level_merged, state_joined, without_page}
use Rattle.bw_level.specs.Reading.{body_pairs, body_writes, contents_in, row_writes, value_in, writes_over}
use Rattle.bw_level.specs.Searches.{AllStand, IsInLevels}
use Rattle.bw_level.specs.Slots.{Slot, PageState, Body, Pairs, Children, Gone, Live, IsSoundBody, IsSoundPage, children_of, left_of, left_of_slot, level_of, slot_at}
use Rattle.bw_level.specs.KeptLevels.{IsTerm, KeepsLevels}
use Rattle.bw_level.specs.Walk.{Leads}
use Rattle.bw_level.proofs.HomeLemmas.{one_home}
use Rattle.bw_level.proofs.LeafRowLemmas.{find_both, low_below, none_outside, or_none, row_above, wide_of}
use Rattle.bw_level.proofs.RouteLemmas.{least, live_way, row_first}
use Rattle.bw_level.proofs.RowLemmas.{InRow, first_stands, in_row, row_on, same_each}
use Rattle.bw_level.proofs.StepLemmas.{contents_kept, levels_kept}

one_state : {s t : PageState} → Live s ≡ Live t → s ≡ t
one_state e = cc

one_next : {a b : ℕ} → Some a ≡ Some b → a ≡ b
one_next e = cc

no_next : {a : ℕ} → None ≡ Some a → ⊥
no_next e = cc

not_live : {l : RemovedPage} {s : PageState} → Gone l ≡ Live s → ⊥
not_live e = cc

one_gone : {l g : RemovedPage} → Gone l ≡ Gone g → l ≡ g
one_gone e = cc

different : true ≡ false → ⊥
different e = cc

-- a key isn't below itself
differ : (a b : KeyBytes) → is_lt (key_cmp a b) ≡ true → a ≡ b → ⊥
differ a b lt same = different (sym lt ∙ ap (λ (c : KeyBytes). is_lt (key_cmp c b)) same ∙ below_self b)

-- two bodies as one
module _ (low m : KeyBytes) (end high : Option KeyBytes) (left_side side : Option ℕ) (meets : end ≡ Some m) where
  -- they make a sound page, where one begins where the other ends, both are of one level, and no write is over the left one
  joined_sound : (b d : Body) → body_writes b ≡ [] → level_of b ≡ level_of d → IsSoundBody low end left_side b → IsSoundBody m high side d → IsSoundBody low high side (bodies_joined b d)
  joined_sound (Pairs pairs writes) (Pairs more others) bare same left right = record {
    page = joined_page low m end high left_side side pairs more meets left.page right.page;
    inside = subst (λ (ws : List WriteView). T (list_all (λ (w : WriteView). is_in_range low high w.key) ws)) (sym bare) tt;
  }
  joined_sound (Pairs pairs writes) (Children level children) bare same left right = absurd (omega (arith, right.raised))
  joined_sound (Children level children) (Pairs pairs writes) bare same left right = absurd (omega (arith, left.raised))
  joined_sound (Children level children) (Children other more) bare same left right = joined_inner_page level other low m end high left_side side children more meets left right

  -- below where they meet the left one has what both have
  find_left : (b d : Body) (key : KeyBytes) → IsSoundBody m high side d → is_lt (key_cmp key m) ≡ true → find key_cmp key (body_pairs (bodies_joined b d)) ≡ find key_cmp key (body_pairs b)
  find_left (Pairs pairs writes) (Pairs more others) key right before =
      find_both key pairs more
      ∙ ap (λ o. option_or (find key_cmp key pairs) o) (none_outside m high key more (λ inside. different (sym before ∙ holds_not _ (left_of_both _ _ inside))) right.page.inside)
      ∙ or_none (find key_cmp key pairs)
  find_left (Pairs pairs writes) (Children level children) key right before = refl
  find_left (Children level children) (Pairs pairs writes) key right before = refl
  find_left (Children level children) (Children other more) key right before = refl

  -- and from there on the right one
  find_right : (b d : Body) (key : KeyBytes) → level_of b ≡ level_of d → IsSoundBody low end left_side b → IsSoundBody m high side d → is_lt (key_cmp key m) ≡ false → find key_cmp key (body_pairs (bodies_joined b d)) ≡ find key_cmp key (body_pairs d)
  find_right (Pairs pairs writes) (Pairs more others) key same left right from =
      find_both key pairs more
      ∙ ap (λ o. option_or o (find key_cmp key more)) (none_outside low end key pairs (λ inside. different (sym (holds _ (right_of_both _ _ (subst (λ (e : Option KeyBytes). T (is_in_range low e key)) meets inside))) ∙ from)) left.page.inside)
  find_right (Pairs pairs writes) (Children level children) key same left right from = absurd (omega (arith, right.raised))
  find_right (Children level children) (Pairs pairs writes) key same left right from = absurd (omega (arith, left.raised))
  find_right (Children level children) (Children other more) key same left right from = refl

  -- the first child is the left one's
  starts_first : (b d : Body) (k : KeyBytes) (c : ℕ) → IsSoundBody low end left_side b → StartsWith (children_of (bodies_joined b d)) k c → StartsWith (children_of b) k c
  starts_first (Pairs pairs writes) (Pairs more others) k c sound starts = starts
  starts_first (Pairs pairs writes) (Children level children) k c sound starts = starts
  starts_first (Children level children) (Pairs pairs writes) k c sound starts = starts
  starts_first (Children level []) (Children other more) k c sound starts = absurd sound.begins
  starts_first (Children level (x ∷ children)) (Children other more) k c sound starts = starts

-- it is of the left one's level
joined_level : (b d : Body) → level_of (bodies_joined b d) ≡ level_of b
joined_level (Pairs pairs writes) (Pairs more others) = refl
joined_level (Pairs pairs writes) (Children level children) = refl
joined_level (Children level children) (Pairs pairs writes) = refl
joined_level (Children level children) (Children other more) = refl

-- and has its writes
joined_writes : (b d : Body) → body_writes (bodies_joined b d) ≡ body_writes b
joined_writes (Pairs pairs writes) (Pairs more others) = refl
joined_writes (Pairs pairs writes) (Children level children) = refl
joined_writes (Children level children) (Pairs pairs writes) = refl
joined_writes (Children level children) (Children other more) = refl

-- what two lists have, one of them has
had_either : {X : Type 0} (xs ys : List X) (x : X) → Contains (xs ++ ys) x → Contains xs x ⊎ Contains ys x
had_either [] ys x has = inr has
had_either (z ∷ xs) ys x (zero, lt, is) = inl (zero, omega arith, is)
had_either (z ∷ xs) ys x (suc i, lt, is) = by (had_either xs ys x (i, omega arith, is))
  where
    by : Contains xs x ⊎ Contains ys x → Contains (z ∷ xs) x ⊎ Contains ys x
    by (inl h) = inl (suc h.0, omega (arith, h.1), h.2)
    by (inr h) = inr h

-- a child is one of either
joined_children : (b d : Body) (c : KeyBytes × ℕ) → Contains (children_of (bodies_joined b d)) c → Contains (children_of b) c ⊎ Contains (children_of d) c
joined_children (Pairs pairs writes) (Pairs more others) c has = inl has
joined_children (Pairs pairs writes) (Children level children) c has = inl has
joined_children (Children level children) (Pairs pairs writes) c has = inl has
joined_children (Children level children) (Children other more) c has = had_either children more c has

-- pages without one of them
is_here : (x q : ℕ) → x ≡ q → nat_eq x q ≡ true
is_here x q e = grind (arith, nat_tests)

is_not : (x q : ℕ) → (x ≡ q → ⊥) → nat_eq x q ≡ false
is_not x q e = grind (arith, nat_tests)

-- the page itself is left out
skips : (q x : ℕ) (ps : List ℕ) → x ≡ q → without_page q (x ∷ ps) ≡ without_page q ps
skips q x ps same = ap (λ b. cond b (without_page q ps) (x ∷ without_page q ps)) (is_here x q same)

-- and each other one stays
takes : (q x : ℕ) (ps : List ℕ) → (x ≡ q → ⊥) → without_page q (x ∷ ps) ≡ x ∷ without_page q ps
takes q x ps other = ap (λ b. cond b (without_page q ps) (x ∷ without_page q ps)) (is_not x q other)

-- so does a first page that is another one
begins_still : (q r : ℕ) (ps : List ℕ) → (r ≡ q → ⊥) → BeginsWith ps r → BeginsWith (without_page q ps) r
begins_still q r [] other begins = begins
begins_still q r (x ∷ ps) other begins = subst (λ (l : List ℕ). BeginsWith l r) (sym (takes q x ps (λ same. other (sym begins ∙ same)))) begins

-- and each page of the list that is another one
has_still : (q r : ℕ) (ps : List ℕ) → (r ≡ q → ⊥) → Contains ps r → Contains (without_page q ps) r
has_still q r [] other has = has
has_still q r (x ∷ ps) other (zero, lt, is) =
    let here : Contains (x ∷ without_page q ps) r = (zero, omega arith, is) in
    subst (λ (l : List ℕ). Contains l r) (sym (takes q x ps (λ same. other (sym is ∙ same)))) here
has_still q r (x ∷ ps) other (suc i, lt, is) = by (nat_eq x q) (has_still q r ps other (i, omega arith, is))
  where
    by : (b : Bool) → Contains (without_page q ps) r → Contains (cond b (without_page q ps) (x ∷ without_page q ps)) r
    by true h = h
    by false h = (suc h.0, omega (arith, h.1), h.2)

-- no page is added
had_before : (q r : ℕ) (ps : List ℕ) → Contains (without_page q ps) r → Contains ps r
had_before q r [] has = has
had_before q r (x ∷ ps) has = by (nat_eq x q) has (had_before q r ps)
  where
    later : Contains ps r → Contains (x ∷ ps) r
    later h = (suc h.0, omega (arith, h.1), h.2)

    by : (b : Bool) → Contains (cond b (without_page q ps) (x ∷ without_page q ps)) r → (Contains (without_page q ps) r → Contains ps r) → Contains (x ∷ ps) r
    by true h more = later (more h)
    by false (zero, lt, is) more = (zero, omega arith, is)
    by false (suc i, lt, is) more = later (more (i, omega arith, is))

module _ (old new : List Slot) (root : ℕ) (levels : List (List ℕ)) (level p q : ℕ) (lawful : AreLevels old root levels) (within : level < length levels) (has : Contains (row levels level) p) (inner : IsNoFirstChild old levels q) (merged : IsMerged old new p q) where
  abbrev left : PageState
  left = merged.left

  abbrev right : PageState
  right = merged.right

  abbrev both : PageState
  both = state_joined left right

  abbrev after : List (List ℕ)
  after = level_merged levels level q

  -- p's place in its row, and its state
  at : InRow old level (row levels level) has.0 p
  at = in_row old level [] (row levels level) has.0 p (lawful.rows level within) has.1 has.2

  is_left : at.stands.state ≡ left
  is_left = one_state (sym at.stands.is ∙ merged.left_is)

  left_sound : IsSoundPage left
  left_sound = subst IsSoundPage is_left at.stands.sound

  left_level : level_of left.body ≡ level
  left_level = ap (λ (s : PageState). level_of s.body) (sym is_left) ∙ at.stands.at_level

  -- the page behind p is q
  record Behind : Type 0 where
    begins : KeyBytes
    high : Option KeyBytes
    side : Option ℕ
    stands : Stands old level begins high side q
    meets : at.high ≡ Some begins
    in_level : Contains (row levels level) q

  -- p's side link names q, so p has an end
  side_here : at.side ≡ Some q
  side_here = sym at.stands.linked ∙ ap (λ (s : PageState). s.side) is_left ∙ merged.linked

  ends_at : (o : Option KeyBytes) → at.high ≡ o → (h : KeyBytes) × (at.high ≡ Some h)
  ends_at None e = absurd (no_next (sym (at.ends e) ∙ side_here))
  ends_at (Some h) e = (h, e)

  behind : Behind
  behind =
      let end = ends_at at.high refl in
      let on = at.goes_on end.0 end.1 in
      let same : on.0 ≡ q = one_next (sym on.1 ∙ side_here) in
      record {
        begins = end.0;
        high = on.4.0;
        side = on.4.1.0;
        stands = subst (λ r. Stands old level end.0 on.4.0 on.4.1.0 r) same on.4.1.1;
        meets = end.1;
        in_level = (suc has.0, on.2, subst (λ r. get_or (row levels level) (suc has.0) r ≡ r) same on.3);
      }

  is_right : behind.stands.state ≡ right
  is_right = one_state (sym behind.stands.is ∙ merged.right_is)

  right_sound : IsSoundPage right
  right_sound = subst IsSoundPage is_right behind.stands.sound

  right_level : level_of right.body ≡ level
  right_level = ap (λ (s : PageState). level_of s.body) (sym is_right) ∙ behind.stands.at_level

  -- the left page ends where the right one begins, so it begins below that
  meets : left.high ≡ Some right.low
  meets = ap (λ (s : PageState). s.high) (sym is_left) ∙ at.stands.to_high ∙ behind.meets ∙ ap Some (sym behind.stands.from_low ∙ ap (λ (s : PageState). s.low) is_right)

  rises : is_lt (key_cmp left.low right.low) ≡ true
  rises = holds _ (subst (λ (h : Option KeyBytes). T (is_below_end h left.low)) meets (wide_of left.low left.high left.side left.body left_sound))

  -- so p and q are two pages
  apart : p ≡ q → ⊥
  apart same = differ left.low right.low rises (ap (λ (s : PageState). s.low) (one_state (sym merged.left_is ∙ ap (slot_at old) same ∙ merged.right_is)))

  same_level : level_of left.body ≡ level_of right.body
  same_level = left_level ∙ sym right_level

  -- the joined page is sound, and of their level
  both_sound : IsSoundPage both
  both_sound = joined_sound left.low right.low left.high right.high left.side right.side meets left.body right.body merged.bare same_level left_sound right_sound

  both_level : level_of both.body ≡ level
  both_level = joined_level left.body right.body ∙ left_level

  -- a removed page isn't live
  not_gone : (x : ℕ) (s : PageState) → slot_at new x ≡ Live s → x ≡ q → ⊥
  not_gone x s is same = not_live (sym merged.gone ∙ ap (slot_at new) (sym same) ∙ is)

  -- what stands where p or q does has its bounds and its level
  stood_left : (n : ℕ) (low : KeyBytes) (high : Option KeyBytes) (side : Option ℕ) (x : ℕ) (s : Stands old n low high side x) → x ≡ p → s.state ≡ left
  stood_left n low high side x s same = one_state (sym s.is ∙ ap (slot_at old) same ∙ merged.left_is)

  stood_right : (n : ℕ) (low : KeyBytes) (high : Option KeyBytes) (side : Option ℕ) (x : ℕ) (s : Stands old n low high side x) → x ≡ q → s.state ≡ right
  stood_right n low high side x s same = one_state (sym s.is ∙ ap (slot_at old) same ∙ merged.right_is)

  from_left : (n : ℕ) (low : KeyBytes) (high : Option KeyBytes) (side : Option ℕ) (x : ℕ) → Stands old n low high side x → x ≡ p → low ≡ left.low
  from_left n low high side x s same = sym s.from_low ∙ ap (λ (t : PageState). t.low) (stood_left n low high side x s same)

  from_right : (n : ℕ) (low : KeyBytes) (high : Option KeyBytes) (side : Option ℕ) (x : ℕ) → Stands old n low high side x → x ≡ q → low ≡ right.low
  from_right n low high side x s same = sym s.from_low ∙ ap (λ (t : PageState). t.low) (stood_right n low high side x s same)

  level_left : (n : ℕ) (low : KeyBytes) (high : Option KeyBytes) (side : Option ℕ) (x : ℕ) → Stands old n low high side x → x ≡ p → n ≡ level
  level_left n low high side x s same = sym s.at_level ∙ ap (λ (t : PageState). level_of t.body) (stood_left n low high side x s same) ∙ left_level

  level_right : (n : ℕ) (low : KeyBytes) (high : Option KeyBytes) (side : Option ℕ) (x : ℕ) → Stands old n low high side x → x ≡ q → n ≡ level
  level_right n low high side x s same = sym s.at_level ∙ ap (λ (t : PageState). level_of t.body) (stood_right n low high side x s same) ∙ right_level

  -- each other page stands where it stood
  elsewhere : (n : ℕ) (low : KeyBytes) (high : Option KeyBytes) (side : Option ℕ) (x : ℕ) → (x ≡ p → ⊥) → (x ≡ q → ⊥) → Stands old n low high side x → Stands new n low high side x
  elsewhere n low high side x other differs s =
      record { state = s.state; is = merged.others x other differs ∙ s.is; sound = s.sound; at_level = s.at_level; from_low = s.from_low; to_high = s.to_high; linked = s.linked }

  -- the joined page stands from p's low key to q's end
  stands_both : (low : KeyBytes) (high : Option KeyBytes) (side : Option ℕ) → low ≡ left.low → right.high ≡ high → right.side ≡ side → Stands new level low high side p
  stands_both low high side from to on = record { state = both; is = merged.joined; sound = both_sound; at_level = both_level; from_low = sym from; to_high = to; linked = on }

  -- behind q a row has neither page
  same_after : (low : KeyBytes) (ps : List ℕ) → is_lt (key_cmp right.low low) ≡ true → SideBySide old level low ps → without_page q ps ≡ ps
  same_after low [] past h = refl
  same_after low (x ∷ []) past h = takes q x [] (λ same. differ right.low low past (sym (from_right level low None None x h same)))
  same_after low (x ∷ y ∷ ys) past h =
      takes q x (y ∷ ys) (λ same. differ right.low low past (sym (from_right level low (Some h.0) (Some y) x h.1 same)))
      ∙ ap (λ (l : List ℕ). x ∷ l) (same_after h.0 (y ∷ ys) (below_trans right.low low h.0 past (low_below old level low h.0 (Some y) x h.1)) h.2)

  -- so it stays
  row_after : (low : KeyBytes) (ps : List ℕ) → is_lt (key_cmp right.low low) ≡ true → SideBySide old level low ps → SideBySide new level low ps
  row_after low [] past h = h
  row_after low (x ∷ []) past h =
      elsewhere level low None None x
      (λ same. differ left.low low (below_trans left.low right.low low rises past) (sym (from_left level low None None x h same)))
      (λ same. differ right.low low past (sym (from_right level low None None x h same)))
      h
  row_after low (x ∷ y ∷ ys) past h = (
    h.0,
    elsewhere level low (Some h.0) (Some y) x
        (λ same. differ left.low low (below_trans left.low right.low low rises past) (sym (from_left level low (Some h.0) (Some y) x h.1 same)))
        (λ same. differ right.low low past (sym (from_right level low (Some h.0) (Some y) x h.1 same)))
        h.1,
    row_after h.0 (y ∷ ys) (below_trans right.low low h.0 past (low_below old level low h.0 (Some y) x h.1)) h.2,
  )

  -- what is behind p is q
  next_is : (low high : KeyBytes) (x y : ℕ) → x ≡ p → Stands old level low (Some high) (Some y) x → y ≡ q
  next_is low high x y here s = one_next (sym s.linked ∙ ap (λ (t : PageState). t.side) (stood_left level low (Some high) (Some y) x s here) ∙ merged.linked)

  -- without q, p goes on to what is behind q
  both_go : (x y : ℕ) (zs : List ℕ) → x ≡ p → y ≡ q → without_page q (x ∷ y ∷ zs) ≡ p ∷ without_page q zs
  both_go x y zs here there =
      takes q x (y ∷ zs) (λ same. apart (sym here ∙ same))
      ∙ ap (λ (l : List ℕ). x ∷ l) (skips q y zs there)
      ∙ ap (λ z. z ∷ without_page q zs) here

  -- where q stands, that is its end and its neighbour
  ends_right : (low : KeyBytes) (high : Option KeyBytes) (side : Option ℕ) (x : ℕ) → Stands old level low high side x → x ≡ q → right.high ≡ high
  ends_right low high side x s same = ap (λ (t : PageState). t.high) (sym (stood_right level low high side x s same)) ∙ s.to_high

  links_right : (low : KeyBytes) (high : Option KeyBytes) (side : Option ℕ) (x : ℕ) → Stands old level low high side x → x ≡ q → right.side ≡ side
  links_right low high side x s same = ap (λ (t : PageState). t.side) (sym (stood_right level low high side x s same)) ∙ s.linked

  -- so from p on the pages are side by side without q
  row_here : (low : KeyBytes) (x y : ℕ) (zs : List ℕ) → x ≡ p → SideBySide old level low (x ∷ y ∷ zs) → SideBySide new level low (without_page q (x ∷ y ∷ zs))
  row_here low x y [] here h =
      let there = next_is low h.0 x y here h.1 in
      let now : SideBySide new level low (p ∷ []) = stands_both low None None (from_left level low (Some h.0) (Some y) x h.1 here) (ends_right h.0 None None y h.2 there) (links_right h.0 None None y h.2 there) in
      subst (λ (l : List ℕ). SideBySide new level low l) (sym (both_go x y [] here there)) now
  row_here low x y (z ∷ zs) here h =
      let there = next_is low h.0 x y here h.1 in
      let past : is_lt (key_cmp right.low h.2.0) ≡ true =
      subst (λ (k : KeyBytes). is_lt (key_cmp k h.2.0) ≡ true) (from_right level h.0 (Some h.2.0) (Some z) y h.2.1 there) (low_below old level h.0 h.2.0 (Some z) y h.2.1) in
      let now : SideBySide new level low (p ∷ z ∷ zs) = (
        h.2.0,
        stands_both low (Some h.2.0) (Some z) (from_left level low (Some h.0) (Some y) x h.1 here) (ends_right h.0 (Some h.2.0) (Some z) y h.2.1 there) (links_right h.0 (Some h.2.0) (Some z) y h.2.1 there),
        row_after h.2.0 (z ∷ zs) past h.2.2,
      ) in
      subst (λ (l : List ℕ). SideBySide new level low l) (sym (both_go x y (z ∷ zs) here there ∙ ap (λ (l : List ℕ). p ∷ l) (same_after h.2.0 (z ∷ zs) past h.2.2))) now

  -- and from the row's first page on
  row_merged : (low : KeyBytes) (ps : List ℕ) (k : ℕ) → SideBySide old level low ps → k < length ps → get_or ps k p ≡ p → SideBySide new level low (without_page q ps)
  row_merged low [] k h lt is = absurd h
  row_merged low (x ∷ []) zero h lt is = absurd (no_next (sym h.linked ∙ ap (λ (t : PageState). t.side) (stood_left level low None None x h is) ∙ merged.linked))
  row_merged low (x ∷ []) (suc k) h lt is = absurd (omega arith)
  row_merged low (x ∷ y ∷ ys) zero h lt is = row_here low x y ys is h
  row_merged low (x ∷ y ∷ ys) (suc k) h lt is =
      let above : is_lt (key_cmp left.low h.0) ≡ false = row_above old level h.0 (y ∷ ys) p left h.2 (k, omega arith, is) merged.left_is in
      let before : is_lt (key_cmp low left.low) ≡ true = below_upto low h.0 left.low (low_below old level low h.0 (Some y) x h.1) above in
      let next = first_stands old level h.0 y ys h.2 in
      let not_left = λ (same : x ≡ p). differ low left.low before (from_left level low (Some h.0) (Some y) x h.1 same) in
      let not_right = λ (same : x ≡ q). differ low right.low (below_trans low left.low right.low before rises) (from_right level low (Some h.0) (Some y) x h.1 same) in
      let next_not = λ (same : y ≡ q). different (sym rises ∙ ap (λ (k : KeyBytes). is_lt (key_cmp left.low k)) (sym (from_right level h.0 next.0 next.1.0 y next.1.1 same)) ∙ above) in
      let there = takes q y ys next_not in
      let rest : SideBySide new level h.0 (y ∷ without_page q ys) = subst (λ (l : List ℕ). SideBySide new level h.0 l) there (row_merged h.0 (y ∷ ys) k h.2 (omega arith) is) in
      let whole : SideBySide new level low (x ∷ y ∷ without_page q ys) = (h.0, elsewhere level low (Some h.0) (Some y) x not_left not_right h.1, rest) in
      subst (λ (l : List ℕ). SideBySide new level low l) (sym (takes q x (y ∷ ys) not_right ∙ ap (λ (l : List ℕ). x ∷ l) there)) whole

  -- other levels have neither page, and stay
  row_stays : (n : ℕ) (low : KeyBytes) (ps : List ℕ) → (n ≡ level → ⊥) → SideBySide old n low ps → SideBySide new n low ps
  row_stays n low ps differs h = row_on old new n (λ l high side x s. elsewhere n l high side x (λ same. differs (level_left n l high side x s same)) (λ same. differs (level_right n l high side x s same)) s) low ps h

  merged_row : row after level ≡ without_page q (row levels level)
  merged_row = get_or-set_same levels level (without_page q (row levels level)) [] within

  other_row : (n : ℕ) → (n ≡ level → ⊥) → row after n ≡ row levels n
  other_row n differs = get_or-set_other levels level n (without_page q (row levels level)) [] differs

  -- what holds of the level and of the others holds of all
  each : (P : ℕ → List ℕ → Type 0) → P level (without_page q (row levels level)) → ((n : ℕ) → (n ≡ level → ⊥) → P n (row levels n)) → (n : ℕ) → P n (row after n)
  each P here there n = by (cases_eq n level)
    where
      by : (n ≡ level) ⊎ (n ≡ level → ⊥) → P n (row after n)
      by (inl same) = subst (λ m. P m (row after m)) (sym same) (subst (P level) (sym merged_row) here)
      by (inr differs) = subst (P n) (sym (other_row n differs)) (there n differs)

  -- the pages of each level are side by side
  rows_new : (n : ℕ) → n < length levels → SideBySide new n [] (row after n)
  rows_new = each (λ n ps. n < length levels → SideBySide new n [] ps)
      (λ lt. row_merged [] (row levels level) has.0 (lawful.rows level within) has.1 has.2)
      (λ n differs lt. row_stays n [] (row levels n) differs (lawful.rows n lt))

  -- each page other than q is still there
  pub has_new : (n r : ℕ) → (r ≡ q → ⊥) → Contains (row levels n) r → Contains (row after n) r
  has_new n r other = each (λ m ps. Contains (row levels m) r → Contains ps r) (has_still q r (row levels level) other) (λ m differs h. h) n

  -- so each page stands where it stood
  stand_new : AllStand old levels → AllStand new after
  stand_new stand r s is = by (cases_eq r p) (cases_eq r q)
    where
      still_on : (r ≡ q → ⊥) → IsInLevels levels r → IsInLevels after r
      still_on other on = record {
        level = on.level;
        within = omega (arith, on.within, length-set levels level (without_page q (row levels level)));
        in_level = has_new on.level r other on.in_level;
      }

      by : (r ≡ p) ⊎ (r ≡ p → ⊥) → (r ≡ q) ⊎ (r ≡ q → ⊥) → IsInLevels after r
      by h (inl gone) = absurd (not_gone r s is gone)
      by (inl here) (inr differs) = still_on differs (stand r left (ap (slot_at old) here ∙ merged.left_is))
      by (inr other) (inr differs) = still_on differs (stand r s (sym (merged.others r other differs) ∙ is))

  -- no page is new
  was_in : (n r : ℕ) → Contains (row after n) r → Contains (row levels n) r
  was_in n r = each (λ m ps. Contains ps r → Contains (row levels m) r) (had_before q r (row levels level)) (λ m differs h. h) n

  -- q isn't the first page of its row, as p begins below it
  not_first : (r : ℕ) → BeginsWith (row levels level) r → r ≡ q → ⊥
  not_first r begins same =
      let first = row_first old level [] (row levels level) r (lawful.rows level within) begins in
      different (sym rises ∙ ap (λ (k : KeyBytes). is_lt (key_cmp left.low k)) (sym (from_right level [] first.0 first.1.0 r first.1.1 same)) ∙ holds_not _ (least left.low))

  -- so each level begins with the page that it began with
  first_new : (n r : ℕ) → n < length levels → BeginsWith (row levels n) r → BeginsWith (row after n) r
  first_new n r lt = each (λ m ps. BeginsWith (row levels m) r → BeginsWith ps r) (λ begins. begins_still q r (row levels level) (not_first r begins) begins) (λ m differs h. h) n

  -- whose first child is the same
  first_child_was : (n r c : ℕ) → suc n < length levels → BeginsWith (row levels (suc n)) r → FirstChild new r c → FirstChild old r c
  first_child_was n r c lt begins first = by (cases_eq r p)
    where
      by : (r ≡ p) ⊎ (r ≡ p → ⊥) → FirstChild old r c
      by (inl here) =
          let now : first.0 ≡ both = one_state (sym first.1 ∙ ap (slot_at new) here ∙ merged.joined) in (
            left,
            ap (slot_at old) here ∙ merged.left_is,
            (
              first.2.0,
              starts_first left.low right.low left.high right.high left.side right.side meets left.body right.body first.2.0 c left_sound
                  (subst (λ (s : PageState). StartsWith (children_of s.body) first.2.0 c) now first.2.1),
            ),
          )
      by (inr other) = (first.0, sym (merged.others r other (not_gone r first.0 first.1)) ∙ first.1, first.2)

  -- a removed page has no other left link than before, and q has one to p
  left_same : (x : ℕ) → (x ≡ q → ⊥) → left_of new x ≡ left_of old x
  left_same x differs = by (cases_eq x p)
    where
      by : (x ≡ p) ⊎ (x ≡ p → ⊥) → left_of new x ≡ left_of old x
      by (inl here) = ap (left_of new) here ∙ ap left_of_slot merged.joined ∙ sym (ap left_of_slot merged.left_is) ∙ ap (left_of old) (sym here)
      by (inr other) = ap left_of_slot (merged.others x other differs)

  no_left : (x y : ℕ) → left_of old x ≡ Some y → x ≡ q → ⊥
  no_left x y step same = no_next (sym (ap left_of_slot merged.right_is) ∙ ap (left_of old) (sym same) ∙ step)

  -- a way along left links to q goes on to p
  way_to_left : (c : ℕ) (xs : List ℕ) → Leads (left_of old) c xs q → (ys : List ℕ) × Leads (left_of new) c ys p
  way_to_left c [] h = (c ∷ [], (refl, (p, ap (left_of new) h.0 ∙ ap left_of_slot merged.gone, (refl, ap left_of_slot merged.joined))))
  way_to_left c (x ∷ xs) h =
      let rest = way_to_left h.1.0 xs h.1.2 in
      (x ∷ rest.0, (h.0, (h.1.0, left_same c (no_left c h.1.0 h.1.1) ∙ h.1.1, rest.1)))

  -- each other one stays
  way_stays : (c : ℕ) (xs : List ℕ) (e : ℕ) → (e ≡ q → ⊥) → Leads (left_of old) c xs e → Leads (left_of new) c xs e
  way_stays c [] e differs h = (h.0, left_same c (λ same. differs (sym h.0 ∙ same)) ∙ h.1)
  way_stays c (x ∷ xs) e differs h = (h.0, (h.1.0, left_same c (no_left c h.1.0 h.1.1) ∙ h.1.1, way_stays h.1.0 xs e differs h.1.2))

  -- p and q stand on no other level
  level_of_left : (n : ℕ) → n < length levels → Contains (row levels n) p → n ≡ level
  level_of_left n lt there =
      let r = in_row old n [] (row levels n) there.0 p (lawful.rows n lt) there.1 there.2 in
      level_left n r.low r.high r.side p r.stands refl

  level_of_right : (n : ℕ) → n < length levels → Contains (row levels n) q → n ≡ level
  level_of_right n lt there =
      let r = in_row old n [] (row levels n) there.0 q (lawful.rows n lt) there.1 there.2 in
      level_right n r.low r.high r.side q r.stands refl

  -- what led below still does, to p where it led to q
  leads_new : (n : ℕ) (k : KeyBytes) (c : ℕ) → n < length levels → LeadsBelow old (row levels n) k c → LeadsBelow new (row after n) k c
  leads_new n k c lt h = by (cases_eq h.page q)
    where
      still : (h.page ≡ p) ⊎ (h.page ≡ p → ⊥) → (h.page ≡ q → ⊥) → (s : PageState) × (slot_at new h.page ≡ Live s) × (s.low ≡ h.state.low)
      still (inl here) differs = (both, ap (slot_at new) here ∙ merged.joined, ap (λ (s : PageState). s.low) (one_state (sym merged.left_is ∙ ap (slot_at old) (sym here) ∙ h.is)))
      still (inr other) differs = (h.state, merged.others h.page other differs ∙ h.is, refl)

      by : (h.page ≡ q) ⊎ (h.page ≡ q → ⊥) → LeadsBelow new (row after n) k c
      by (inl there) =
          let on = way_to_left c h.removed (subst (λ e. Leads (left_of old) c h.removed e) there h.way) in
          let here : n ≡ level = level_of_right n lt (subst (Contains (row levels n)) there h.in_level) in
          let upto : IsUpto right.low k = subst (λ (s : PageState). IsUpto s.low k) (one_state (sym h.is ∙ ap (slot_at old) there ∙ merged.right_is)) h.from_low in
          record {
            removed = on.0;
            page = p;
            way = on.1;
            in_level = has_new n p apart (subst (λ m. Contains (row levels m) p) (sym here) has);
            state = both;
            is = merged.joined;
            from_low = not_holds _ (upto_trans left.low right.low k (below_back left.low right.low rises) (holds_not _ upto));
          }
      by (inr differs) =
          let now = still (cases_eq h.page p) differs in
          record {
            removed = h.removed;
            page = h.page;
            way = way_stays c h.removed h.page differs h.way;
            in_level = has_new n h.page differs h.in_level;
            state = now.0;
            is = now.1;
            from_low = subst (λ (z : KeyBytes). IsUpto z k) (sym now.2) h.from_low;
          }

  -- a child of the joined page is one of either page
  term_was : (n : ℕ) (k : KeyBytes) (c : ℕ) → suc n < length levels → IsTerm new after n k c → IsTerm old levels n k c
  term_was n k c lt t = by (cases_eq t.page p) (was_in (suc n) t.page t.in_level)
    where
      by : (t.page ≡ p) ⊎ (t.page ≡ p → ⊥) → Contains (row levels (suc n)) t.page → IsTerm old levels n k c
      by (inl here) there =
          of_either (joined_children left.body right.body (k, c) (subst (λ (s : PageState). Contains (children_of s.body) (k, c)) (one_state (sym t.is ∙ ap (slot_at new) here ∙ merged.joined)) t.named))
        where
          p_there : Contains (row levels (suc n)) p
          p_there = subst (Contains (row levels (suc n))) here there

          of_either : Contains (children_of left.body) (k, c) ⊎ Contains (children_of right.body) (k, c) → IsTerm old levels n k c
          of_either (inl named) = record { page = p; in_level = p_there; state = left; is = merged.left_is; named = named }
          of_either (inr named) = record { page = q; in_level = subst (λ m. Contains (row levels m) q) (sym (level_of_left (suc n) lt p_there)) behind.in_level; state = right; is = merged.right_is; named = named }
      by (inr other) there = record { page = t.page; in_level = there; state = t.state; is = sym (merged.others t.page other (not_gone t.page t.state t.is)) ∙ t.is; named = t.named }

  -- so the levels are kept
  keeps : KeepsLevels old new levels after
  keeps = record {
    count = length-set levels level (without_page q (row levels level));
    rows = rows_new;
    first = first_new;
    first_child = first_child_was;
    terms = λ n k c lt t. inl (record { was = term_was n k c lt t; leads = leads_new n k c (omega (arith, lt)) });
  }

  lawful_new : AreLevels new root after
  lawful_new = levels_kept old new root levels after lawful keeps

  -- a child that is still there begins where it began
  began : (c : ℕ) (s : PageState) → slot_at new c ≡ Live s → (t : PageState) × (slot_at old c ≡ Live t) × (t.low ≡ s.low)
  began c s is = by (cases_eq c p)
    where
      by : (c ≡ p) ⊎ (c ≡ p → ⊥) → (t : PageState) × (slot_at old c ≡ Live t) × (t.low ≡ s.low)
      by (inl here) = (left, ap (slot_at old) here ∙ merged.left_is, ap (λ (t : PageState). t.low) (one_state (sym merged.joined ∙ ap (slot_at new) (sym here) ∙ is)))
      by (inr other) = (s, sym (merged.others c other (not_gone c s is)) ∙ is, refl)

  -- and a removed one did: q on its level, where its entry leads, since no left link leads on from it
  began_there : AreExact old levels → (n : ℕ) (k : KeyBytes) (c : ℕ) (g : RemovedPage) → suc n < length levels → IsTerm old levels n k c → slot_at new c ≡ Gone g → (c ≡ p) ⊎ (c ≡ p → ⊥) → (c ≡ q) ⊎ (c ≡ q → ⊥) → (g.low ≡ k) × (g.level ≡ n)
  began_there exact n k c g lt term is (inl here) h = absurd (not_live (sym is ∙ ap (slot_at new) here ∙ merged.joined))
  began_there exact n k c g lt term is (inr other) (inr differs) = exact.began n k c g lt term (sym (merged.others c other differs) ∙ is)
  began_there exact n k c g lt term is (inr other) (inl there) =
      let was : slot_at old c ≡ Live right = ap (slot_at old) there ∙ merged.right_is in
      let leads = lawful.terms n term.page term.state k c lt term.in_level term.is term.named in
      let alone = live_way old c leads.page leads.removed right was leads.way in
      let here : n ≡ level = level_of_right n (omega (arith, lt)) (subst (Contains (row levels n)) (sym alone.1 ∙ there) leads.in_level) in
      let same = one_gone (sym is ∙ ap (slot_at new) there ∙ merged.gone) in (
        ap (λ (x : RemovedPage). x.low) same ∙ exact.begins n k c right lt term was,
        ap (λ (x : RemovedPage). x.level) same ∙ right_level ∙ sym here,
      )

  -- no page begins with a removed child: neither with q nor with one of before, and p begins before q did
  lies_behind : AreExact old levels → (n : ℕ) (k : KeyBytes) (c : ℕ) (g : RemovedPage) → suc n < length levels → (had : IsTerm old levels n k c) → slot_at new c ≡ Gone g → (c ≡ p) ⊎ (c ≡ p → ⊥) → (c ≡ q) ⊎ (c ≡ q → ⊥) → is_lt (key_cmp had.state.low k) ≡ true
  lies_behind exact n k c g lt had is (inl here) h = absurd (not_live (sym is ∙ ap (slot_at new) here ∙ merged.joined))
  lies_behind exact n k c g lt had is (inr other) (inl there) =
      inner n k lt (record { page = had.page; in_level = had.in_level; state = had.state; is = had.is; named = subst (λ x. Contains (children_of had.state.body) (k, x)) there had.named })
  lies_behind exact n k c g lt had is (inr other) (inr differs) = exact.behind n k c g lt had (sym (merged.others c other differs) ∙ is)

  behind_there : AreExact old levels → (n : ℕ) (k : KeyBytes) (c : ℕ) (g : RemovedPage) → suc n < length levels → (t : IsTerm new after n k c) → slot_at new c ≡ Gone g → is_lt (key_cmp t.state.low k) ≡ true
  behind_there exact n k c g lt t is = by (cases_eq t.page p) (was_in (suc n) t.page t.in_level)
    where
      lies : (had : IsTerm old levels n k c) → is_lt (key_cmp had.state.low k) ≡ true
      lies had = lies_behind exact n k c g lt had is (cases_eq c p) (cases_eq c q)

      by : (t.page ≡ p) ⊎ (t.page ≡ p → ⊥) → Contains (row levels (suc n)) t.page → is_lt (key_cmp t.state.low k) ≡ true
      by (inl here) there =
          ap (λ (s : PageState). is_lt (key_cmp s.low k)) same
          ∙ of_either (joined_children left.body right.body (k, c) (subst (λ (s : PageState). Contains (children_of s.body) (k, c)) same t.named))
        where
          same : t.state ≡ both
          same = one_state (sym t.is ∙ ap (slot_at new) here ∙ merged.joined)

          p_there : Contains (row levels (suc n)) p
          p_there = subst (Contains (row levels (suc n))) here there

          of_either : Contains (children_of left.body) (k, c) ⊎ Contains (children_of right.body) (k, c) → is_lt (key_cmp left.low k) ≡ true
          of_either (inl named) = lies (record { page = p; in_level = p_there; state = left; is = merged.left_is; named = named })
          of_either (inr named) =
              below_trans left.low right.low k rises
              (lies (record { page = q; in_level = subst (λ m. Contains (row levels m) q) (sym (level_of_left (suc n) lt p_there)) behind.in_level; state = right; is = merged.right_is; named = named }))
      by (inr other) there = lies (record { page = t.page; in_level = there; state = t.state; is = sym (merged.others t.page other (not_gone t.page t.state t.is)) ∙ t.is; named = t.named })

  -- so index entries stay exact
  exact_new : AreExact old levels → AreExact new after
  exact_new exact = record {
    begins = λ n k c s lt term is. let b = began c s is in sym b.2 ∙ exact.begins n k c b.0 (above n lt) (term_was n k c (above n lt) term) b.1;
    began = λ n k c g lt term is. began_there exact n k c g (above n lt) (term_was n k c (above n lt) term) is (cases_eq c p) (cases_eq c q);
    behind = λ n k c g lt term is. behind_there exact n k c g (above n lt) term is;
    once = λ n k h c lt one other. exact.once n k h c (above n lt) (term_was n k c (above n lt) one) (term_was n h c (above n lt) other);
  }
    where
      above : (n : ℕ) → suc n < length after → suc n < length levels
      above n lt = subst (λ m. suc n < m) (length-set levels level (without_page q (row levels level))) lt

  -- the joined page has no writes, as neither page had
  writes_same : (x : ℕ) → writes_over (slot_at new x) ≡ writes_over (slot_at old x)
  writes_same x = by (cases_eq x p) (cases_eq x q)
    where
      by : (x ≡ p) ⊎ (x ≡ p → ⊥) → (x ≡ q) ⊎ (x ≡ q → ⊥) → writes_over (slot_at new x) ≡ writes_over (slot_at old x)
      by (inl here) h =
          ap (λ y. writes_over (slot_at new y)) here ∙ ap writes_over merged.joined ∙ joined_writes left.body right.body
          ∙ sym (ap writes_over merged.left_is) ∙ ap (λ y. writes_over (slot_at old y)) (sym here)
      by (inr other) (inl gone) =
          ap (λ y. writes_over (slot_at new y)) gone ∙ ap writes_over merged.gone ∙ sym merged.other_bare
          ∙ sym (ap writes_over merged.right_is) ∙ ap (λ y. writes_over (slot_at old y)) (sym gone)
      by (inr other) (inr differs) = ap writes_over (merged.others x other differs)

  -- so what is over a row stays
  row_same : (ps : List ℕ) → row_writes new ps ≡ row_writes old ps
  row_same ps = same_each (λ x. writes_over (slot_at old x)) (λ x. writes_over (slot_at new x)) writes_same ps

  -- also without q, over which there is no write
  without_same : (ps : List ℕ) → row_writes new (without_page q ps) ≡ row_writes new ps
  without_same [] = refl
  without_same (x ∷ ps) = by (cases_eq x q) (without_same ps)
    where
      by : (x ≡ q) ⊎ (x ≡ q → ⊥) → row_writes new (without_page q ps) ≡ row_writes new ps → row_writes new (without_page q (x ∷ ps)) ≡ row_writes new (x ∷ ps)
      by (inl gone) rest =
          ap (row_writes new) (skips q x ps gone) ∙ rest
          ∙ sym (ap (λ (l : List WriteView). l ++ row_writes new ps) (ap (λ y. writes_over (slot_at new y)) gone ∙ ap writes_over merged.gone))
      by (inr differs) rest = ap (row_writes new) (takes q x ps differs) ∙ ap (λ (l : List WriteView). writes_over (slot_at new x) ++ l) rest

  writes_kept : row_writes new (row after 0) ≡ row_writes old (row levels 0)
  writes_kept = each (λ n ps. row_writes new ps ≡ row_writes old (row levels n)) (without_same (row levels level) ∙ row_same (row levels level)) (λ n differs. row_same (row levels n)) 0

  -- a key's old home is what its new one was joined from, or the same page with the same state
  record HadHome (key : KeyBytes) (y : ℕ) : Type 0 where
    page : ℕ
    home : IsHome old levels key page
    value : (stamp : ℕ) → value_in (slot_at new y) key stamp ≡ value_in (slot_at old page) key stamp

  -- what the joined page has is what one of the two had, where that one had the key's pair
  value_both : (key : KeyBytes) (was : PageState) (y r : ℕ) → y ≡ p → slot_at old r ≡ Live was → body_writes was.body ≡ [] → find key_cmp key (body_pairs both.body) ≡ find key_cmp key (body_pairs was.body) → (stamp : ℕ) →
      value_in (slot_at new y) key stamp ≡ value_in (slot_at old r) key stamp
  value_both key was y r here is bare found stamp =
      ap (λ z. value_in (slot_at new z) key stamp) here
      ∙ ap (λ (o : Slot). value_in o key stamp) merged.joined
      ∙ ap (λ o. history o (action_at (writes_to key (body_writes both.body))) stamp) found
      ∙ ap (λ (ws : List WriteView). history (find key_cmp key (body_pairs was.body)) (action_at (writes_to key ws)) stamp) (joined_writes left.body right.body ∙ merged.bare ∙ sym bare)
      ∙ sym (ap (λ (o : Slot). value_in o key stamp) is)

  -- each key had such a home
  had_home : (key : KeyBytes) (y : ℕ) → IsHome new after key y → HadHome key y
  had_home key y h = by (cases_eq y p) (was_in 0 y h.reached.in_level)
    where
      by : (y ≡ p) ⊎ (y ≡ p → ⊥) → Contains (row levels 0) y → HadHome key y
      by (inl here) there = at_key (is_lt (key_cmp key right.low)) refl
        where
          p_there : Contains (row levels 0) p
          p_there = subst (Contains (row levels 0)) here there

          now : h.reached.state ≡ both
          now = one_state (sym h.reached.is ∙ ap (slot_at new) here ∙ merged.joined)

          at_key : (b : Bool) → is_lt (key_cmp key right.low) ≡ b → HadHome key y
          at_key true before = record {
            page = p;
            home = record {
              reached = record { within = lawful.some; in_level = p_there; state = left; is = merged.left_is; from_low = subst (λ (s : PageState). IsUpto s.low key) now h.reached.from_low };
              ends_above = subst (λ (o : Option KeyBytes). T (is_below_end o key)) (sym meets) (true_holds _ before);
            };
            value = value_both key left y p here merged.left_is merged.bare (find_left left.low right.low left.high right.high left.side right.side meets left.body right.body key right_sound before);
          }
          at_key false from = record {
            page = q;
            home = record {
              reached = record { within = lawful.some; in_level = subst (λ m. Contains (row levels m) q) (sym (level_of_left 0 lawful.some p_there)) behind.in_level; state = right; is = merged.right_is; from_low = not_holds _ from };
              ends_above = subst (λ (s : PageState). T (is_below_end s.high key)) now h.ends_above;
            };
            value = value_both key right y q here merged.right_is merged.other_bare (find_right left.low right.low left.high right.high left.side right.side meets left.body right.body key same_level left_sound right_sound from);
          }
      by (inr other) there =
          let same = merged.others y other (not_gone y h.reached.state h.reached.is) in
          record {
            page = y;
            home = record {
              reached = record { within = lawful.some; in_level = there; state = h.reached.state; is = sym same ∙ h.reached.is; from_low = h.reached.from_low };
              ends_above = h.ends_above;
            };
            value = λ stamp. ap (λ (o : Slot). value_in o key stamp) same;
          }

  -- so the levels hold what they held
  contents_new : HasDistinctStamps (row_writes old (row levels 0)) → (stamp : ℕ) → contents_in new after stamp ≡ contents_in old levels stamp
  contents_new distinct stamp = contents_kept old new root root levels after stamp stamp lawful lawful_new distinct (subst HasDistinctStamps (sym writes_kept) distinct) (λ key x y h k.
      let m = had_home key y k in
      m.value stamp ∙ ap (λ z. value_in (slot_at old z) key stamp) (one_home old root levels lawful key m.page x m.home h))

pub merges_kept : MergesAreKept
merges_kept old new root levels level p q lawful within has inner merged = record {
  lawful = lawful_new old new root levels level p q lawful within has inner merged;
  exact = exact_new old new root levels level p q lawful within has inner merged;
  stand = stand_new old new root levels level p q lawful within has inner merged;
  writes = writes_kept old new root levels level p q lawful within has inner merged;
  contents = contents_new old new root levels level p q lawful within has inner merged;
}
