pub mod Entries
pub mod KeysAhead
pub mod SettledKeys
pub mod Sheets
