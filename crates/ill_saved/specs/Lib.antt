pub mod Faults
pub mod Shown
pub mod CommittedBytes
pub mod Holdings
pub mod OneSide
pub mod Desk
pub mod ManySides
pub mod BadAnswers
