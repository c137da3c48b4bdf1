-- Texts are read as items, references and trees, in one way.
pub mod Nesting
pub mod Spans
pub mod Texts
pub mod Reading
pub mod Doctypes
pub mod OneReading
pub mod Items
pub mod Fronts
pub mod Whole
pub mod NameBytes
pub mod Worked
pub mod TagLemmas
pub mod Marks
pub mod Firsts
pub mod Ends
pub mod ReferenceLemmas
pub mod FaultLemmas
