pub mod ItemRows
