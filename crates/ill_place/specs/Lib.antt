pub mod BadPlaces
pub mod Place
