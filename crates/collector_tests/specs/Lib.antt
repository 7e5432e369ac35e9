pub mod Parts
pub mod ShardExamples
pub mod ScriptExamples
pub mod ReplayExamples
