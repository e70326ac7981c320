pub mod SlotLaws
pub mod WriteLaws
pub mod CallLaws
pub mod HeldLaws
pub mod StoreLaws
pub mod ClearLaws
pub mod ToldLaws
