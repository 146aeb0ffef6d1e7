pub mod Desks
pub mod Contents
pub mod Places
pub mod BadAnswers
pub mod CommittedMessages
