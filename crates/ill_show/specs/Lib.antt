pub mod ItemLine
pub mod Loan
pub mod LoanLines
pub mod Numbers
pub mod Objects
pub mod Picture
pub mod Status
pub mod Verify
