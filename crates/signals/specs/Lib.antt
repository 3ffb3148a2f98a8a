pub mod Words
pub mod Words6846
pub mod Words6840
