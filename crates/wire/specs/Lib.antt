pub mod Stamp
pub mod Order
pub mod Book
pub mod Pair
pub mod Lockstep
