pub mod GatheredLaws
pub mod FewLaws
