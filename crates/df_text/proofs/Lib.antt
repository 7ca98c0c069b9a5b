pub mod DigitLaws
pub mod DecimalLaws
pub mod RunLaws
pub mod ReadingLaws
