pub mod BothWays
pub mod ClauseLists
pub mod Decimals
pub mod EscapedTexts
pub mod Misfits
pub mod Printed
pub mod Stopping
pub mod WordLists
