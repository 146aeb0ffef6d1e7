pub mod ExitStatus
pub mod Help
pub mod Runs
pub mod Simulate
