pub mod CellLemmas
pub mod FindingLemmas
pub mod MessageLemmas
