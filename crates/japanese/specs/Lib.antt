pub mod EucJp
pub mod Iso2022Jp
pub mod Shared
pub mod ShiftJis
pub mod Tables
