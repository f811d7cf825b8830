pub mod FirstLogs
pub mod Opens
pub mod Safe
