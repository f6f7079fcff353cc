pub mod TagMachine
