pub mod Published
pub mod Words
pub mod Tables
pub mod Stepping
pub mod Examples
pub mod Writing
