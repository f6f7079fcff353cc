pub mod WriteFaults
