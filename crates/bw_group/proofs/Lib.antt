pub mod ListParts
pub mod PointGroups
pub mod Groups
pub mod Wholes
pub mod HomeRuns
pub mod PassedPages
mod FoundHomes
pub mod HomeReads
mod NumberLemmas
pub mod SortedPoints
mod RankLemmas
mod WriteCounts
mod FlatPermutations
mod WritePlaces
