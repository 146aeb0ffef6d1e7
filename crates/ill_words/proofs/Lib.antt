pub mod BadSendings
pub mod HeldLemmas
pub mod OrderLemmas
pub mod PossibleLemmas
pub mod SendingLemmas
pub mod SidesLemmas
pub mod WaitingLemmas
