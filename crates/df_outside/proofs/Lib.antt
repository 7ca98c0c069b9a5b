mod CutLemmas
mod ArrivalLemmas
pub mod PairLaws
