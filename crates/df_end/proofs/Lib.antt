pub mod EntryLaws
pub mod RowLaws
pub mod CloseLaws
pub mod ShardLaws
pub mod PlaceLaws
pub mod RoundLaws
pub mod FlushLaws
pub mod AskedLaws
