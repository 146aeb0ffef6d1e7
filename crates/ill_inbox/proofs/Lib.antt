pub mod DatesLemmas
pub mod InboxLemmas
