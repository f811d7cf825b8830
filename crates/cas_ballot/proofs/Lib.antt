pub mod BallotLemmas
pub mod CountLemmas
pub mod MemberLemmas
