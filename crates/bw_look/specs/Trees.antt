-- The rules that every tree keeps.
use Rattle.std.specs.Prelude.{◌≡◌, ℕ, ◌+◌, ◌^◌, ◌<◌, ◌≤◌, List, ◌++◌, length, take, drop, Option, Some, None, is_some, slice_index}
use Rattle.std.specs.List.{AllByRecursion}
use Rattle.std.specs.Option.{option_map}
use Rattle.bw_delta.specs.Writes.{WriteView}
use Rattle.bw_delta.specs.History.{HasDistinctStamps}
use Rattle.bw_level.specs.Slots.{Slot}
use Rattle.bw_level.specs.Levels.{AreLevels, row, levels_under}
use Rattle.bw_level.specs.Entries.{AreExact}
use Rattle.bw_level.specs.Changes.{Bases}
use Rattle.bw_chain.specs.Chains.{AllEnd, Records, slots_of}
use Rattle.bw_chain.specs.Records.{put_records, writes_in}
use Rattle.bw_level.specs.Reading.{row_writes}
use Rattle.bw_level.specs.Searches.{AllStand, IsInLevels}
use Rattle.bw_chain.specs.Supports.{OwnBases}
use Rattle.bw_look.specs.View.{TreeView, StageView}
use Rattle.bw_look.specs.declared.words_before.WordsBefore.{WordsBefore}
use Rattle.bw_look.specs.Words.{bases_before, words_before}

-- the writes over all leaves of a tree
abbrev pub leaf_writes : List Slot → ℕ → List WriteView
leaf_writes slots root = row_writes slots (row (levels_under slots root) 0)

-- each page that has a record stands on a level
abbrev pub ArePlaced : List ℕ → List (List ℕ) → Type 0
ArePlaced heads levels = (p : ℕ) → p < length heads → 2 ^ 32 ≤ slice_index heads p → IsInLevels levels p

-- Pages that form levels with exact index entries, so that each page stands on a level, and on the base page of its own
-- number, with writes whose stamps are distinct and below a bound.
pub record IsStanding (heads : List ℕ) (bases : Bases) (records : Records) (root bound : ℕ) : Type 0 where
  pub ends : AllEnd bases records heads
  pub own : OwnBases heads bases records
  pub lawful : AreLevels (slots_of heads bases records) root (levels_under (slots_of heads bases records) root)
  pub exact : AreExact (slots_of heads bases records) (levels_under (slots_of heads bases records) root)
  pub stand : AllStand (slots_of heads bases records) (levels_under (slots_of heads bases records) root)
  pub distinct : HasDistinctStamps (leaf_writes (slots_of heads bases records) root)
  pub past : AllByRecursion (λ w. w.stamp < bound) (leaf_writes (slots_of heads bases records) root)
  pub placed : ArePlaced heads (levels_under (slots_of heads bases records) root)
  pub fits : bound ≤ 2 ^ 40
  pub few_records : length records ≤ 2 ^ 32
  pub few_pages : length heads ≤ 2 ^ 32
  pub few_bases : length bases ≤ 2 ^ 32

-- What a stage keeps: how many records there were before it, how many stamps it takes, and the mapping words and base pages
-- before it, once others were adopted.
pub record StageWords : Type 0 where
  pub records : ℕ
  pub ops : ℕ
  pub before : Option WordsBefore

abbrev pub stage_of : List ℕ → Bases → Records → ℕ → StageWords → StageView
stage_of heads bases records root stage =
    let words = words_before stage.before heads in
    let slots = slots_of words (bases_before stage.before bases) (take stage.records records) in
    record {
      slots = slots;
      levels = levels_under slots root;
      heads = words;
      records = stage.records;
      ops = stage.ops;
      writes = writes_in (drop stage.records records);
      adopted = is_some stage.before;
    }

-- what contracts see of a tree
abbrev pub view_of : List ℕ → Bases → Records → ℕ → ℕ → Option StageWords → TreeView
view_of heads bases records root next staged =
    let slots = slots_of heads bases records in
    record {
      slots = slots;
      root = root;
      levels = levels_under slots root;
      heads = heads;
      records = length records;
      next = next;
      staged = option_map (stage_of heads bases records root) staged;
    }

-- the stamp behind the staged ones
abbrev pub end_of : ℕ → Option StageWords → ℕ
end_of next None = next
end_of next (Some stage) = next + stage.ops

-- the levels of what stood before a batch was staged
abbrev pub levels_before : StageWords → List ℕ → Bases → Records → ℕ → List (List ℕ)
levels_before stage heads bases records root =
    let words = words_before stage.before heads in
    levels_under (slots_of words (bases_before stage.before bases) (take stage.records records)) root

-- no two of the stamps are one, and each is from low on
pub record AreStampedFrom (low : ℕ) (writes : List WriteView) : Type 0 where
  pub distinct : HasDistinctStamps writes
  pub from : AllByRecursion (λ w. low ≤ w.stamp) writes

-- The records behind the earlier ones are the writes of a batch, in some order, with stamps from the next one on. What
-- stood before is a tree, with the same levels.
pub record IsStaged (heads : List ℕ) (bases : Bases) (records : Records) (root next : ℕ)
    (stage : StageWords) : Type 0 where
  pub writes : List WriteView
  pub links : List ℕ
  pub parts : records ≡ take stage.records records ++ put_records writes links
  pub linked : length links ≡ length writes
  pub earlier : stage.records ≤ length records
  pub stamped : AreStampedFrom next writes
  pub below : AllByRecursion (λ w. w.stamp < next + stage.ops) writes
  pub before : IsStanding (words_before stage.before heads) (bases_before stage.before bases)
      (take stage.records records) root next
  pub same : levels_before stage heads bases records root ≡ levels_under (slots_of heads bases records) root

abbrev pub IsStage : List ℕ → Bases → Records → ℕ → ℕ → Option StageWords → Type 0
IsStage heads bases records root next None = Unit {0}
IsStage heads bases records root next (Some stage) = IsStaged heads bases records root next stage

-- the pages stand, with writes below the end of what is staged, and so does what stood before a staged batch
pub record IsTree (heads : List ℕ) (bases : Bases) (records : Records) (root next : ℕ)
    (staged : Option StageWords) : Type 0 where
  pub now : IsStanding heads bases records root (end_of next staged)
  pub stage : IsStage heads bases records root next staged
