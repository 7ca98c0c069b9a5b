pub mod PointLaws
pub mod GatherLaws
pub mod WrittenLaws
pub mod RunLaws
