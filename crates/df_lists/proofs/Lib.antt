pub mod ResizeLaws
pub mod PushLaws
pub mod PopLaws
pub mod RangeLaws
pub mod RemovalLaws
pub mod PlaceLaws
pub mod DispatchLaws
