pub mod BoundLaws
pub mod TallyLaws
pub mod CountLaws
pub mod BodyLaws
pub mod ToldLaws
