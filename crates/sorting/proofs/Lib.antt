pub mod Examples
pub mod laws
