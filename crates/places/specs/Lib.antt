pub mod Sets
pub mod Places
pub mod Order
pub mod Candidates
pub mod Succession
