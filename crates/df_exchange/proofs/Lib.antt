pub mod ActLaws
pub mod FoundLaws
pub mod AskLaws
pub mod HearLaws
