pub mod LetterLemmas
pub mod PlaceLaws
