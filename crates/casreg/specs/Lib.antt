pub mod Disks
pub mod Folder
