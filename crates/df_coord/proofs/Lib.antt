pub mod AloneLaws
pub mod RunLaws
pub mod FoundLaws
pub mod HeardLaws
pub mod StepLaws
