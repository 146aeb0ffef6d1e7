pub mod CameSinceLemmas
pub mod DeedLemmas
pub mod NewsLemmas
pub mod OpenLemmas
