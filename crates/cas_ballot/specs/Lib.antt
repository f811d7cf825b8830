pub mod Ballot
pub mod MemberBits
pub mod Members
