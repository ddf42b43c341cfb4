-- The proofs that the crates above may cite, and those of this crate.
pub mod Meanings
mod Paths
