pub mod Jitter
pub mod MachineState
pub mod Drawing
pub mod Run
