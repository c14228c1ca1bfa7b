pub mod LaneLemmas
pub mod Products
pub mod RowLemmas
