pub mod BadTraces
pub mod Scripts
pub mod Simulations
pub mod Steps
pub mod Texts
