pub mod CopyLemmas
pub mod MessageFilesLemmas
pub mod OutboxLemmas
