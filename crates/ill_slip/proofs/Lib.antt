pub mod PathLemmas
pub mod ReaderLemmas
pub mod SlipLemmas
