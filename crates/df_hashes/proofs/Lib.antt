pub mod MapLaws
pub mod PutLaws
pub mod DropLaws
pub mod MetLaws
pub mod ListingLaws
pub mod ChangeLaws
pub mod FreshLaws
