pub mod JobsLemmas
pub mod RequestLemmas
pub mod CommandsLemmas
