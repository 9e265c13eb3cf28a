pub mod FlowLaws
pub mod FlowSteps
pub mod FlowRules
pub mod EachFlows
