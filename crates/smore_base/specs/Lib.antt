pub mod BigEndian
pub mod Geometry
pub mod Name
pub mod Objects
pub mod Room
pub mod Told
