pub mod SortedPairs
pub mod Maps
pub mod Picks
pub mod RunsLemmas
