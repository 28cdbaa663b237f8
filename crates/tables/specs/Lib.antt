pub mod Lawful
pub mod Forms
pub mod Held
