pub mod HistoryLaws
pub mod LoanLemmas
pub mod StatusLemmas
pub mod VerifyLemmas
