pub mod SampleLeaves
