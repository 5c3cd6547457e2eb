pub mod Table
pub mod Records
pub mod ReadBack
pub mod WriteBack
pub mod Aligned
pub mod Town
