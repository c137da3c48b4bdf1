pub mod Seen
pub mod Gathering
pub mod Selections
pub mod SelectedNodes
pub mod Steps
pub mod Selecting
