-- The definitions that the contracts of this crate and of every gauge cite, one concept a file.
pub mod Paths
pub mod Faults
pub mod Meaning
pub mod Shows
