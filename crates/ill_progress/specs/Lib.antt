pub mod BadEnds
pub mod BadNightWithPeople
pub mod BadRetirement
pub mod Ends
pub mod LastNumbers
pub mod NightFacts
pub mod NightWithPeople
pub mod Retirement
