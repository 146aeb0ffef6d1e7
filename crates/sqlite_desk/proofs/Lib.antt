pub mod CountingLemmas
