-- `Laws` has the laws for callers, `Parts` those for callers that lend a part of a slice, and `Nodes` those that the loops rest on.
pub mod Nodes
pub mod Laws
pub mod Parts
