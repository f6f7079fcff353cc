pub mod PieceTrees
