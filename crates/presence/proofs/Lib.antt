pub mod Counted
pub mod Ones
pub mod Set
