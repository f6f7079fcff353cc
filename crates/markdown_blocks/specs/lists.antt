pub mod Lists
pub mod Tracked
