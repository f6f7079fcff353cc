pub mod CloneLemmas
pub mod ForestCounts
pub mod ForestLemmas
pub mod OrderLemmas
pub mod RemovalLemmas
pub mod Rows
pub mod SiblingLemmas
pub mod TreeLemmas
