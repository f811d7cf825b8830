pub mod DeskLemmas
pub mod RoundLemmas
