pub mod ActLemmas
pub mod ActionLemmas
pub mod NewLemmas
pub mod TakeLemmas
pub mod TrialLemmas
