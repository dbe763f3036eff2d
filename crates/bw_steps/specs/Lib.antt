pub mod Steps
pub mod Naming
pub mod MergeSteps
pub mod Releasing
