pub mod ByteOrderMark
