pub mod Parts
pub mod Replies
pub mod Sections
pub mod WriteGroups
