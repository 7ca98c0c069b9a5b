pub mod AskLaws
pub mod EntryLaws
pub mod HolderLaws
pub mod IndexLaws
pub mod KeptLaws
