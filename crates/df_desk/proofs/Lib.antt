pub mod TableLaws
pub mod OutcomeLaws
pub mod DeskLaws
