pub mod Names
pub mod Cells
pub mod Firsts
pub mod EventNames
pub mod Spelling
