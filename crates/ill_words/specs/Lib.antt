pub mod BadSending
pub mod Outcome
pub mod Possible
pub mod Sending
pub mod Shown
pub mod Sides
pub mod Waiting
pub mod Words
