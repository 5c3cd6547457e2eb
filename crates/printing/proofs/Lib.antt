pub mod Prints
pub mod Scan
pub mod Pairs
pub mod Openings
pub mod Served
pub mod Short
pub mod Shown
pub mod Whole
