pub mod Paging
pub mod PagingEnds
pub mod Parts
pub mod Answers
