pub mod RoomLaws
pub mod CallLaws
pub mod HopLaws
pub mod LineLaws
