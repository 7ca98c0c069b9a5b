pub mod ReplyLaws
pub mod CombineLaws
pub mod MemberLaws
