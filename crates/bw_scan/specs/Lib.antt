pub mod Gaps
pub mod Replaying
pub mod Cursors
