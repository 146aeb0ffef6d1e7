pub mod FieldLemmas
pub mod NamingLemmas
pub mod AskingLemmas
pub mod LookLemmas
pub mod ChangeLemmas
pub mod BadAskings
pub mod ReadingLemmas
