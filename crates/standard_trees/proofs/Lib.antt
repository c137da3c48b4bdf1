mod ExamplesComputed
mod MoreDepth
mod OneWay
mod Ending
pub mod EveryMode
pub mod EveryText
mod Settling
mod KeptModes
mod Routes
mod TableTexts
