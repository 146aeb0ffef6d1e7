pub mod CountLaws
pub mod DaysLaws
pub mod DiaryLaws
pub mod FewLemmas
pub mod TextLaws
pub mod GrowLemmas
