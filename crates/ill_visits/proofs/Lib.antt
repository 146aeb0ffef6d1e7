pub mod PageLemmas
pub mod VisitLemmas
