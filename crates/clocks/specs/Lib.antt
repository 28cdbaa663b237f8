pub mod Search
pub mod Cells
pub mod Letters
pub mod Texts
