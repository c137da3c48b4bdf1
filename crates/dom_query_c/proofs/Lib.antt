mod AsBox
mod AsPolicyBox
mod AsReaderBox
mod Asking
mod Walking
