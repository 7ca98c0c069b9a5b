pub mod RowLaws
pub mod RoundLaws
