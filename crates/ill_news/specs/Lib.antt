pub mod CameSince
pub mod Deeds
pub mod News
pub mod OpenAnswers
pub mod PrintedNews
