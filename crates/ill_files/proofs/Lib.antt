pub mod DesksLemmas
pub mod FoldersLemmas
pub mod OpenLemmas
pub mod ShelfNamesLemmas
