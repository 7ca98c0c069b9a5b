pub mod AloneLaws
pub mod PipeLaws
pub mod ServeLaws
pub mod WordsLaws
