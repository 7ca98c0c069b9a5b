pub mod ModesLaws
pub mod ConflictLaws
pub mod GatherLaws
