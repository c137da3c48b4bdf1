pub mod Calls
pub mod PolicySlots
pub mod ReaderSlots
pub mod Slots
