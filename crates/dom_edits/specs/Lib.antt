pub mod Edits
pub mod Loans
pub mod Sources
