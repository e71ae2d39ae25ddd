pub mod GeneratedLog
