pub mod SimulateLemmas
pub mod WordsLemmas
