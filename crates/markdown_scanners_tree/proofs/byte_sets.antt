pub mod SetLanes
