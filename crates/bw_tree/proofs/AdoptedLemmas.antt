-- A tree that adopted the words that a board was closed with.
use Rattle.bw_tree.specs.Stages.{writes_with}
use Rattle.std.proofs.Common.{◌≡◌, ℕ, ◌+◌, ◌<◌, ◌≤◌, true, false, List, ◌++◌, length, take, drop, Option, Some, None, refl, sym, ap, ◌∙◌, subst, arith}
use Rattle.std.specs.Prelude.{filter, slice_get, slice_index}
use Rattle.std.specs.List.{Contains}
use Rattle.std.specs.List.Sorted.{IsPermutation}
use Rattle.std.specs.FinMap.{from_entries}
use Rattle.bw_core.specs.World.{Meets}
use Rattle.bw_delta.specs.Arenas.{deltas_of, links_of}
use Rattle.bw_delta.specs.Writes.{WriteView}
use Rattle.bw_delta.specs.ContentsAsOf.{contents_as_of}
use Rattle.bw_level.specs.Slots.{Slot, slot_at, has_key}
use Rattle.bw_level.specs.Reading.{writes_over, row_pairs, row_writes}
use Rattle.bw_level.specs.Turns.{slot_without_writes}
use Rattle.bw_level.specs.Levels.{IsHome, row, levels_under}
use Rattle.bw_level.specs.Changes.{Bases}
use Rattle.bw_chain.specs.Chains.{Records, floor_word, slot_of_word, slots_of}
use Rattle.bw_look.specs.Trees.{IsStanding, IsTree, StageWords, stage_of, view_of}
use Rattle.bw_look.specs.Words.{bases_before, words_before}
use Rattle.bw_look.specs.declared.words_before.WordsBefore.{WordsBefore}
use Rattle.bw_chain.specs.Records.{put_records, writes_in}
use Rattle.bw_tree.specs.Stages.{IsPosted, IsPostedStage, adopted_stage}
use Rattle.bw_look.specs.View.{TreeView, StageView, contents_at, contents_with}
use Rattle.bw_tree.proofs.AdoptLemmas.{ChainOf, contents_after_it, levels_after, pages_after, relinked, standing_after, writes_after}
use Rattle.bw_look.proofs.StagedLemmas.{take_length, writes_put_in}
use Rattle.bw_chain.proofs.GrowthLemmas.{append_extends, drop_front, same_map, still_ends, take_front}
use Rattle.bw_tree.proofs.PostedLemmas.{posted_length}

-- the tree behind an adoption: this one with the records posted, and with this stage, adopted
pub record IsAdoptedOn (heads : List ℕ) (bases : Bases) (records : Records) (root next : ℕ) (staged : Option StageWords) (tree : TreeView) (stage : Option StageView) : Type 0 where
  pub tree_is : IsTree heads bases records root next staged
  pub contents : (stamp : ℕ) → contents_at (view_of heads bases records root next staged) stamp ≡ contents_with tree stamp
  pub levels : levels_under (slots_of heads bases records) root ≡ tree.levels
  pub pages : (p : ℕ) → slot_without_writes (slot_at (slots_of heads bases records) p) ≡ slot_without_writes (slot_at tree.slots p)
  pub writes : (p : ℕ) → Contains (row tree.levels 0) p → IsPermutation (writes_with tree p) (writes_over (slot_at (slots_of heads bases records) p))
  pub staged_is : (view_of heads bases records root next staged).staged ≡ adopted_stage stage

module _ (heads heads' : List ℕ) (bases : Bases) (records : Records) (root next n ops : ℕ) (links : List ℕ) where
  abbrev stage : StageWords
  stage = record { records = n; ops = ops; before = None }

  abbrev tree : TreeView
  tree = view_of heads bases records root next (Some stage)

  abbrev earlier : Records
  earlier = take n records

  module _ (t : IsTree heads bases records root next (Some stage)) (p : IsPosted tree (stage_of heads bases records root stage) heads' links) where
    abbrev ws : List WriteView
    ws = t.stage.writes

    abbrev before : Records
    before = put_records ws t.stage.links

    count : length earlier ≡ n
    count = take_length n records t.stage.earlier

    writes_are : writes_in (drop n records) ≡ ws
    writes_are =
        ap (λ (r : Records). writes_in (drop n r)) t.stage.parts ∙ ap (λ k. writes_in (drop k (earlier ++ before))) (sym count)
        ∙ ap writes_in (drop_front earlier before) ∙ writes_put_in ws t.stage.links t.stage.linked

    linked : length links ≡ length ws
    linked = p.records ∙ ap length writes_are

    slots_same : slots_of heads bases records ≡ slots_of heads bases earlier
    slots_same =
        ap (λ (r : Records). slots_of heads bases r) t.stage.parts
        ∙ same_map (slot_of_word bases earlier) (slot_of_word bases (earlier ++ before)) heads
        (λ q word e. (still_ends bases earlier (earlier ++ before) word (append_extends earlier before) (omega (arith, posted_length bases earlier ws t.stage.links t.stage.linked)) (t.stage.before.ends q word e)).1)

    chains : (q : ℕ) → q < length heads → ChainOf (slots_of heads bases earlier) (levels_under (slots_of heads bases earlier) root) (floor_word + length earlier) ws links (slice_index heads' q) (slice_index heads q) q
    chains q lt =
        let c = p.chains q lt in
        record {
          chain = c.chain;
          way = subst (λ k. Meets (floor_word + k) links (slice_index heads' q) c.chain (slice_index heads q)) (sym count) c.way;
          once = c.once;
          here = λ r w at home. c.here r w (ap (λ (l : List WriteView). slice_get l r) writes_are ∙ at) (subst (λ (s : List Slot). IsHome s (levels_under s root) w.key q) (sym slots_same) home);
          only = λ r w at some. subst (λ (s : List Slot). IsHome s (levels_under s root) w.key q) slots_same (c.only r w (ap (λ (l : List WriteView). slice_get l r) writes_are ∙ at) some);
        }

    abbrev after : Records
    after = earlier ++ put_records ws links

    length_same : length after ≡ length records
    length_same = omega (arith, posted_length bases earlier ws links linked, posted_length bases earlier ws t.stage.links t.stage.linked, ap length t.stage.parts)

    first_same : take n after ≡ earlier
    first_same = ap (λ k. take k after) (sym count) ∙ take_front earlier (put_records ws links)

    last_same : writes_in (drop n after) ≡ ws
    last_same = ap (λ k. writes_in (drop k after)) (sym count) ∙ ap writes_in (drop_front earlier (put_records ws links)) ∙ writes_put_in ws links linked

    levels_now : levels_under (slots_of heads' bases after) root ≡ levels_under (slots_of heads bases earlier) root
    levels_now = levels_after heads heads' bases earlier root next (next + ops) ws links linked p.pages t.stage.stamped t.stage.below (omega arith) t.stage.before chains

    pub adopt_fits : n + length links ≤ length records
    adopt_fits = omega (arith, linked, count, posted_length bases earlier ws t.stage.links t.stage.linked, ap length t.stage.parts)

    pub adopt_links : (new : Records) → deltas_of new ≡ deltas_of records → links_of new ≡ take n (links_of records) ++ links ++ drop (n + length links) (links_of records) → new ≡ after
    adopt_links new deltas links_are =
        relinked earlier ws t.stage.links links records new t.stage.parts t.stage.linked linked deltas
        (subst (λ k. links_of new ≡ take k (links_of records) ++ links ++ drop (k + length links) (links_of records)) (sym count) links_are)

    -- the words and base pages before the adoption, by what is kept of them
    module _ (past : WordsBefore) (was : List ℕ) (was_bases : Bases) (back : words_before (Some past) heads' ≡ was) (back_bases : bases_before (Some past) bases ≡ was_bases) (stood : IsStanding was was_bases earlier root next)
        (same_levels : levels_under (slots_of was was_bases earlier) root ≡ levels_under (slots_of heads bases earlier) root) where
      abbrev stage' : StageWords
      stage' = record { records = n; ops = ops; before = Some past }

      abbrev put_back : Bases
      put_back = bases_before (Some past) bases

      adopted_tree : IsTree heads' bases after root next (Some stage')
      adopted_tree = record {
        now = standing_after heads heads' bases earlier root next (next + ops) ws links linked p.pages t.stage.stamped t.stage.below (omega arith) t.stage.before chains t.now.fits (omega (arith, t.now.few_records, length_same));
        stage = record {
          writes = ws;
          links = links;
          parts = ap (λ (r : Records). r ++ put_records ws links) (sym first_same);
          linked = linked;
          earlier = omega (arith, t.stage.earlier, length_same);
          stamped = t.stage.stamped;
          below = t.stage.below;
          before =
              subst (λ (h : List ℕ). IsStanding h put_back (take n after) root next) (sym back)
              (subst (λ (b : Bases). IsStanding was b (take n after) root next) (sym back_bases)
              (subst (λ (r : Records). IsStanding was was_bases r root next) (sym first_same) stood));
          same =
              ap (λ (h : List ℕ). levels_under (slots_of h put_back (take n after)) root) back
              ∙ ap (λ (b : Bases). levels_under (slots_of was b (take n after)) root) back_bases
              ∙ ap (λ (r : Records). levels_under (slots_of was was_bases r) root) first_same
              ∙ same_levels ∙ sym levels_now;
        };
      }

      abbrev stage_with : List ℕ → Bases → Records → List WriteView → StageView
      stage_with h b r w =
          let slots = slots_of h b r in
          record { slots = slots; levels = levels_under slots root; heads = h; records = n; ops = ops; writes = w; adopted = true }

      pub adopt_all : IsAdoptedOn heads' bases after root next (Some stage') tree (Some (stage_of was was_bases records root stage))
      adopt_all = record {
        tree_is = adopted_tree;
        contents = λ stamp.
            contents_after_it heads heads' bases earlier root next (next + ops) ws links linked p.pages t.stage.stamped t.stage.below (omega arith) t.stage.before chains stamp
            ∙ ap (λ (s : List Slot). contents_as_of (from_entries (row_pairs s (row (levels_under s root) 0))) (ws ++ row_writes s (row (levels_under s root) 0)) stamp) (sym slots_same)
            ∙ ap (λ (l : List WriteView). let s = slots_of heads bases records in contents_as_of (from_entries (row_pairs s (row (levels_under s root) 0))) (l ++ row_writes s (row (levels_under s root) 0)) stamp) (sym writes_are);
        levels = levels_now ∙ ap (λ (s : List Slot). levels_under s root) (sym slots_same);
        pages = λ q.
            pages_after heads heads' bases earlier root next (next + ops) ws links linked p.pages t.stage.stamped t.stage.below (omega arith) t.stage.before chains q ∙ ap (λ (s : List Slot). slot_without_writes (slot_at s q)) (sym slots_same);
        writes = λ q has.
            subst (λ (s : List Slot). IsPermutation (filter (λ w. has_key (slot_at s q) w.key) (writes_in (drop n records)) ++ writes_over (slot_at s q)) (writes_over (slot_at (slots_of heads' bases after) q))) (sym slots_same)
            (subst (λ (l : List WriteView). IsPermutation (filter (λ w. has_key (slot_at (slots_of heads bases earlier) q) w.key) l ++ writes_over (slot_at (slots_of heads bases earlier) q)) (writes_over (slot_at (slots_of heads' bases after) q))) (sym writes_are)
            (writes_after heads heads' bases earlier root next (next + ops) ws links linked p.pages t.stage.stamped t.stage.below (omega arith) t.stage.before chains q
            (subst (λ (s : List Slot). Contains (row (levels_under s root) 0) q) slots_same has)));
        staged_is =
            ap (λ h. Some (stage_with h put_back (take n after) (writes_in (drop n after)))) back
            ∙ ap (λ b. Some (stage_with was b (take n after) (writes_in (drop n after)))) back_bases
            ∙ ap (λ r. Some (stage_with was was_bases r (writes_in (drop n after)))) first_same
            ∙ ap (λ w. Some (stage_with was was_bases earlier w)) (last_same ∙ sym writes_are);
      }

-- What an adoption does, from the words that it writes: these words and base pages stood before it.
pub record Adoption (was heads' : List ℕ) (was_bases bases : Bases) (records : Records) (root next : ℕ) (tree : TreeView) (stage : Option StageView) (s : StageWords) (links : List ℕ) : Type 0 where
  pub fits : s.records + length links ≤ length records
  pub all : (past : WordsBefore) → words_before (Some past) heads' ≡ was → bases_before (Some past) bases ≡ was_bases → (new : Records) → deltas_of new ≡ deltas_of records → links_of new ≡ take s.records (links_of records) ++ links ++ drop (s.records + length links) (links_of records) →
      IsAdoptedOn heads' bases new root next (Some (record { records = s.records; ops = s.ops; before = Some past })) tree stage

-- over pages that stood otherwise, with the same levels
pub adoption_over : (heads heads' was : List ℕ) (bases was_bases : Bases) (records : Records) (root next n ops : ℕ) (links : List ℕ) → let s : StageWords = record { records = n; ops = ops; before = None } in let tree = view_of heads bases records root next (Some s) in
    IsTree heads bases records root next (Some s) → IsPosted tree (stage_of heads bases records root s) heads' links → IsStanding was was_bases (take n records) root next → levels_under (slots_of was was_bases (take n records)) root ≡ levels_under (slots_of heads bases (take n records)) root →
    Adoption was heads' was_bases bases records root next tree (Some (stage_of was was_bases records root s)) s links
adoption_over heads heads' was bases was_bases records root next n ops links t p stood same_levels =
    let s : StageWords = record { records = n; ops = ops; before = None } in
    let tree : TreeView = view_of heads bases records root next (Some s) in
    record {
      fits = adopt_fits heads heads' bases records root next n ops links t p;
      all = λ past back back_bases new deltas links_are.
          let s' : StageWords = record { records = n; ops = ops; before = Some past } in
          subst (λ (r : Records). IsAdoptedOn heads' bases r root next (Some s') tree (Some (stage_of was was_bases records root s)))
          (sym (adopt_links heads heads' bases records root next n ops links t p new deltas links_are)) (adopt_all heads heads' bases records root next n ops links t p past was was_bases back back_bases stood same_levels);
    }

adoption_at : (heads heads' : List ℕ) (bases : Bases) (records : Records) (root next n ops : ℕ) (before : Option WordsBefore) (links : List ℕ) → IsTree heads bases records root next (Some (record { records = n; ops = ops; before = before })) →
    let tree = view_of heads bases records root next (Some (record { records = n; ops = ops; before = before })) in IsPostedStage tree tree.staged heads' links → Adoption heads heads' bases bases records root next tree tree.staged (record { records = n; ops = ops; before = before }) links
adoption_at heads heads' bases records root next n ops (Some b) links t p = absurd (different p.0)
  where
    different : true ≡ false → ⊥
    different e = cc
adoption_at heads heads' bases records root next n ops None links t p = adoption_over heads heads' heads bases bases records root next n ops links t p.1 t.stage.before refl

pub adoption : (heads heads' : List ℕ) (bases : Bases) (records : Records) (root next : ℕ) (staged : Option StageWords) (tree : TreeView) (s : StageWords) (links : List ℕ) → IsTree heads bases records root next staged → view_of heads bases records root next staged ≡ tree → Some s ≡ staged →
    IsPostedStage tree tree.staged heads' links → Adoption heads heads' bases bases records root next tree tree.staged s links
adoption heads heads' bases records root next staged seen s links t is some p =
    subst (λ (v : TreeView). Adoption heads heads' bases bases records root next v v.staged s links) (ap (view_of heads bases records root next) some ∙ is)
    (adoption_at heads heads' bases records root next s.records s.ops s.before links (subst (IsTree heads bases records root next) (sym some) t)
    (subst (λ (v : TreeView). IsPostedStage v v.staged heads' links) (sym (ap (view_of heads bases records root next) some ∙ is)) p))

-- and so of the words that were written
pub adopted_with : (was heads' : List ℕ) (was_bases bases : Bases) (records : Records) (root next : ℕ) (tree : TreeView) (stage : Option StageView) (s : StageWords) (links : List ℕ) → Adoption was heads' was_bases bases records root next tree stage s links →
    (words : List ℕ) (bases' : Bases) (new : Records) (staged : Option StageWords) (given : List ℕ) (past : WordsBefore) → words ≡ heads' → bases' ≡ bases → given ≡ links → deltas_of new ≡ deltas_of records →
    links_of new ≡ take s.records (links_of records) ++ given ++ drop (s.records + length given) (links_of records) → words_before (Some past) words ≡ was → bases_before (Some past) bases' ≡ was_bases → staged ≡ Some (record { records = s.records; ops = s.ops; before = Some past }) →
    IsAdoptedOn words bases' new root next staged tree stage
adopted_with was heads' was_bases bases records root next tree stage s links a words bases' new staged given past same_words same_bases same_links deltas linked back back_bases staged_is =
    let links_are = subst (λ (l : List ℕ). links_of new ≡ take s.records (links_of records) ++ l ++ drop (s.records + length l) (links_of records)) same_links linked in
    subst (λ (h : List ℕ). IsAdoptedOn h bases' new root next staged tree stage) (sym same_words)
    (subst (λ (b : Bases). IsAdoptedOn heads' b new root next staged tree stage) (sym same_bases)
    (subst (λ (o : Option StageWords). IsAdoptedOn heads' bases new root next o tree stage) (sym staged_is)
    (a.all past (ap (words_before (Some past)) (sym same_words) ∙ back) (ap (bases_before (Some past)) (sym same_bases) ∙ back_bases) new deltas links_are)))
