pub mod Axes
pub mod Bounds
pub mod Chart
pub mod Entries
pub mod Lists
pub mod Steps
