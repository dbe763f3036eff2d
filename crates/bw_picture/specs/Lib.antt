pub mod DrawnPages
pub mod Layout
pub mod Pictures
