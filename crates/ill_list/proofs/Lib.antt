pub mod ListLaws
pub mod ListLemmas
pub mod MorningLaws
