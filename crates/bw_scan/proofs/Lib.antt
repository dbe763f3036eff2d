pub mod BackLemmas
pub mod GapLemmas
pub mod ScanLemmas
pub mod ReplayLemmas
pub mod CursorLemmas
