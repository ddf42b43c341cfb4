-- The proofs of this crate that several functions share.
mod Lasts
mod Cells
mod Searches
mod Candidates
mod TierLaws
mod Examples
mod SameTiers
