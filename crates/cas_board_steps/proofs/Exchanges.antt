pub mod Councils
pub mod Operating
pub mod Probes
pub mod Reads
pub mod Truth
