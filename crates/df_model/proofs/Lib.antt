pub mod FramingLaws
pub mod LocalityLaws
pub mod StringLaws
mod WordLaws
pub mod CallLaws
pub mod WholeLaws
pub mod MembersLaws
pub mod MoveLaws
pub mod StoreLaws
pub mod EncodingLaws
mod Examples
mod PatternExamples
