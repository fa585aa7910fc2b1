-- How much room there is across, going round and flooding to find it, and an arc's share taken out.
pub mod Free
pub mod Round
pub mod Flood
pub mod Hold
