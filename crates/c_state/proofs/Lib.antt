pub mod CleanedTexts
pub mod Found
pub mod PageEncodings
