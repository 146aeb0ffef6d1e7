pub mod Texts
pub mod Dates
pub mod Equality
pub mod DaysLater
pub mod Names
