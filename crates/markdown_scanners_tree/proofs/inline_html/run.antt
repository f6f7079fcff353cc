pub mod Budget
pub mod GuardsStay
pub mod KeptGuard
pub mod Runs
pub mod Sums
