pub mod OwnedCounts
pub mod Folds
pub mod Homes
pub mod PageSpares
pub mod Staged
pub mod Lost
pub mod Joined
