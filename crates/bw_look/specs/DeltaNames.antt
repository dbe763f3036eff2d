-- What no delta of a tree's chains names.
use Rattle.std.specs.Prelude.{ℕ, List}
use Rattle.bw_level.specs.Changes.{Bases}
use Rattle.bw_level.specs.Freeing.{IsUnreached}
use Rattle.bw_level.specs.Levels.{levels_under}
use Rattle.bw_chain.specs.Chains.{Records, slots_of}
use Rattle.bw_chain.specs.DeltaNames.{HasDeltaNaming}
use Rattle.bw_look.specs.Trees.{IsStanding}

-- no delta of a page's chain names a page that stands on no level, and to which nothing leads
abbrev pub NoDeltaNamesUnreached : Type 0
NoDeltaNamesUnreached =
    (heads : List ℕ) (bases : Bases) (records : Records) (root bound page p : ℕ) →
    IsStanding heads bases records root bound →
    IsUnreached (slots_of heads bases records) (levels_under (slots_of heads bases records) root) p →
    HasDeltaNaming heads records page p → ⊥
