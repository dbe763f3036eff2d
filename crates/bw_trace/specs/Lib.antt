pub mod BatchTexts
pub mod ShapeTexts
pub mod Ends
pub mod Running
pub mod Statuses
pub mod Determined
