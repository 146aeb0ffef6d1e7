pub mod BadTraces
pub mod Replay
pub mod Simulating
