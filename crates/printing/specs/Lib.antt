pub mod Lines
pub mod Printed
pub mod Run
pub mod Steps
pub mod Example
