-- The states of the exported kernels, read from their cells and registers.
pub mod State
