pub mod Members
pub mod Reading
