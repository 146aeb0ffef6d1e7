pub mod DayTexts
