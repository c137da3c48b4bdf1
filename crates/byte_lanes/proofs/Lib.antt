pub mod LaneLemmas
