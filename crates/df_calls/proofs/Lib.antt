pub mod LeftLaws
pub mod NoteLaws
