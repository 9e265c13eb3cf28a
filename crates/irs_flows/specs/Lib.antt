pub mod FlowReading
pub mod FlowFaults
