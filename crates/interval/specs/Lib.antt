-- The definitions that the contracts of this crate cite, one concept a file.
pub mod Tops
pub mod Spans
pub mod Numbers
pub mod Told
pub mod Faults
pub mod Allowances
pub mod Tolerances
pub mod Shared
pub mod Meetings
pub mod Ends
pub mod Examples
