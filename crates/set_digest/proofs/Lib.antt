pub mod LineLaws
pub mod ListLaws
pub mod RecordLaws
pub mod PoolLaws
pub mod SetLaws
