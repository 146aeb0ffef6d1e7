pub mod Code128
pub mod Slip
