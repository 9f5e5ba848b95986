pub mod AdapterLemmas
pub mod RunLemmas
