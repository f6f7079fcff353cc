pub mod TitleFrom
