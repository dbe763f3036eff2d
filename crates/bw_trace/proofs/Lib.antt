pub mod RunningLemmas
pub mod DeterminedLemmas
pub mod EndsLemmas
