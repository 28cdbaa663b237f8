pub mod Lawfulness
pub mod Held
pub mod Masks
pub mod Runs
