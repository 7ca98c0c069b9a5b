pub mod CheckLaws
pub mod WordsLaws
