-- What the private calls answer.
pub mod Part
pub mod Class
pub mod Run
