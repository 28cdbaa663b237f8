pub mod NameLists
pub mod EdgeHeads
pub mod EntryHeads
pub mod EntryRows
pub mod InTurn
pub mod HeadWords
pub mod Spacing
