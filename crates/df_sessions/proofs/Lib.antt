pub mod SeatLaws
pub mod ListLaws
pub mod SessionLaws
pub mod CrowdLaws
pub mod EntryLaws
pub mod EndLaws
