-- `Laws` has the laws for callers. The others are what the loops rest on: `Chains` that of
-- `chain`, `Begun` that of `start`, `Steps` that of `spread`, `Settling` that of `settle`.
pub mod Chains
pub mod Begun
pub mod Steps
pub mod Settling
pub mod Laws
