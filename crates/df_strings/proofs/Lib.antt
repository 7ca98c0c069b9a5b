pub mod OtherLaws
pub mod WriteLaws
