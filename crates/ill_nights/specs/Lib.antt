pub mod BadNights
pub mod Messages
pub mod Nights
