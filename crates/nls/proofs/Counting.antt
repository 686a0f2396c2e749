-- How many bits a scan writes: sums over the tree, the parts that stand, and a scan over a table that writes what the magnitudes say.
pub mod Sums
pub mod Tree
pub mod Parts
pub mod Count
pub mod Sizes
pub mod Bound
pub mod Summary
pub mod Tiles
pub mod Steps
pub mod Passes
pub mod Opens
pub mod SetPass
pub mod Whole
pub mod Lists
