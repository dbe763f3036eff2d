pub mod RunLemmas
pub mod PairsLemmas
pub mod ListsLemmas
pub mod Packings
pub mod Halving
pub mod Views
