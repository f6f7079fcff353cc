pub mod ColumnsLeft
pub mod ContainerLemmas
pub mod MarkerLemmas
pub mod PlainItems
pub mod TextLines
pub mod StartLemmas
