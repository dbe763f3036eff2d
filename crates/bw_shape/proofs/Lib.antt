pub mod KeptLeaves
pub mod SweepLemmas
pub mod PartLemmas
pub mod TidyLemmas
pub mod WholeLemmas
pub mod AbsorbLemmas
pub mod UnfinishedLemmas
