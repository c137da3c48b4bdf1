pub mod grammar
pub mod rows
pub mod html
pub mod plain
