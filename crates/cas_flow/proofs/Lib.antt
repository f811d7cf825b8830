mod FrameLemmas
mod Messages
