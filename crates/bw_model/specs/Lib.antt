pub mod Values
pub mod Contents
pub mod Codes
pub mod Actions
pub mod Model
pub mod Verbs
pub mod Runs
pub mod Sorted
