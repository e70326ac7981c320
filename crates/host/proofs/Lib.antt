pub mod AddLaws
pub mod LineLaws
pub mod ClaimLaws
