pub mod BigEndianLaws
pub mod GeometryLaws
pub mod RoomLaws
pub mod Told
