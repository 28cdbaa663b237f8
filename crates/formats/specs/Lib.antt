pub mod Walk
pub mod Faults
pub mod Least
pub mod TableText
pub mod TableGood
pub mod DistanceText
pub mod EntriesText
pub mod EntryLines
