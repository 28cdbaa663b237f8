pub mod Reader
pub mod Distances
pub mod DistanceReading
pub mod Reading
pub mod Counting
