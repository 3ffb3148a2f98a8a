pub mod Within
pub mod Sames
