pub mod LinesLemmas
pub mod Misreading
pub mod Numbers
pub mod ReadBackLemmas
pub mod ReadingSteps
pub mod TracesLemmas
pub mod Writing
