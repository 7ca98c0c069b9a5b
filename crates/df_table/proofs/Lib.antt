pub mod CombosLaws
pub mod ListLaws
pub mod NamesLaws
pub mod OneLaws
pub mod SetLaws
pub mod SeveralLaws
pub mod TableLaws
