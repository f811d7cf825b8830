pub mod Collecting
pub mod Renewals
pub mod RoundCalls
pub mod RoundEnds
pub mod RoundStages
pub mod Rounds
pub mod Steps
