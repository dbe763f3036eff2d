pub mod PutLeafLemmas
pub mod DueLevelLemmas
pub mod FindingsLemmas
