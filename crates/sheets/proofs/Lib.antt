pub mod Walking
pub mod EntriesWalk
pub mod EntriesOf
pub mod Ticks
pub mod Made
pub mod Counted
