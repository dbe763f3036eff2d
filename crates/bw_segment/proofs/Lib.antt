pub mod SegmentsLemmas
