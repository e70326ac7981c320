pub mod FlowLaws
pub mod FourLaws
