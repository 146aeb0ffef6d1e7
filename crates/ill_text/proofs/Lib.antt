pub mod EscapeLemmas
pub mod HtmlLemmas
pub mod InputLemmas
pub mod JsonLemmas
pub mod LongLemmas
pub mod VisitsLemmas
