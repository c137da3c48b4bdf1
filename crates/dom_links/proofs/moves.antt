-- Nodes are detached and put elsewhere.
pub mod Attach
pub mod Cuts
pub mod Kept
pub mod Acyclicity
pub mod BlockLists
pub mod BlockCuts
pub mod BlockFills
pub mod BlockGaps
pub mod BlockKept
pub mod BlockWrites
pub mod BlockMoves
pub mod TwoSteps
pub mod Unwrapping
pub mod Dissolving
pub mod Stripping
pub mod OneCuts
pub mod Owners
