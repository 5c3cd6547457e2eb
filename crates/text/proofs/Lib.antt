pub mod Bytes
pub mod Numbers
pub mod Blanks
pub mod Splices
pub mod Runs
pub mod Angles
