pub mod StopLaws
pub mod PartLaws
pub mod FileLaws
pub mod LargeLaws
