pub mod Lists
pub mod Pairs
pub mod Search
