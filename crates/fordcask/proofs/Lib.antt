pub mod Questions
pub mod FactorOne
pub mod Totals
