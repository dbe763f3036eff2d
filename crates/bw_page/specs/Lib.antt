pub mod Pages
pub mod Leaves
pub mod MergedEntries
pub mod Inners
pub mod Codes
