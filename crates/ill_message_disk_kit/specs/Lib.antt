pub mod MemoryMessageFiles
