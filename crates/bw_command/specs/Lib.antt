pub mod LimitSettings
pub mod Jobs
pub mod CommandLine
pub mod Commands
