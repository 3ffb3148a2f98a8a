pub mod Run
pub mod Count
pub mod Laws
pub mod Stays
