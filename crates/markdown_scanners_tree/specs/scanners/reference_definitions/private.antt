pub mod GapLength
