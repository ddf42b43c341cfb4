-- The lemmas of this crate; those that other crates may use are public.
pub mod Allowances
mod Numbers
pub mod Lists
mod Counts
pub mod Spans
mod Nearest
mod Ends
pub mod Meetings
mod Examples
