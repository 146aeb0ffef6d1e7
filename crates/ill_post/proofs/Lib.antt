pub mod StampLemmas
pub mod TwiceLemmas
