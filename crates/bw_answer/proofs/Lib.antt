mod ListLemmas
mod WriteGroups
pub mod ReplyLemmas
mod ScanLemmas
mod PartPlaces
mod Gathered
mod PlacedFrom
mod Sectioned
mod Placed
mod Replied
mod GroupReads
