pub mod Run
pub mod Events
pub mod Moves
