pub mod Words
pub mod EditLine
pub mod NameLists
pub mod Script
pub mod Faults
