pub mod Points
pub mod Homes
pub mod Ranks
pub mod FoundRuns
