pub mod Line
pub mod Known
pub mod Same
pub mod Pairs
pub mod Axes
pub mod Regions
pub mod Chain
pub mod Places
pub mod Copies
pub mod Alike
pub mod Answers
pub mod Ranges
pub mod Doubles
pub mod Applied
pub mod Answered
pub mod Nearest
mod Edges
pub mod Containing
