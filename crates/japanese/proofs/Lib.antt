pub mod ShiftJisSteps
pub mod EucJpSteps
pub mod IsoSteps
