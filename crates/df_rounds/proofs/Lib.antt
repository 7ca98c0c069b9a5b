pub mod ToldLaws
pub mod AskedLaws
pub mod OverLaws
pub mod ProgressLaws
pub mod UnderwayLaws
pub mod BetweenLaws
pub mod AgreeLaws
mod RoundExamples
mod FlushExample
