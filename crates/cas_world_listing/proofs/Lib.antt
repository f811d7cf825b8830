pub mod KeyLemmas
pub mod MemberWalks
