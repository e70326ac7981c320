pub mod Reading
pub mod Writing
pub mod Powers
pub mod ReadBack
pub mod FewLaws
