pub mod Plain
pub mod Entry
pub mod Tiles
pub mod InStore
pub mod Totals
pub mod Steps
pub mod FactorOne
