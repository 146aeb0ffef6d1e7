pub mod BadLibraries
pub mod BadPower
pub mod CutOff
pub mod Events
pub mod Libraries
pub mod MessageFile
pub mod Power
pub mod ShelfLibraries
