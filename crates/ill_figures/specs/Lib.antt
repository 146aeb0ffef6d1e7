pub mod Bad
pub mod Days
pub mod Figures
pub mod LoanFigures
pub mod Texts
