pub mod FinishLemmas
pub mod TakenLemmas
pub mod FreedLemmas
pub mod NamedNeighbours
pub mod PlainLemmas
pub mod SideLemmas
pub mod MergeStepLemmas
