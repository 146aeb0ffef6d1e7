pub mod TextLemmas
pub mod UrlLemmas
