pub mod Post
pub mod ReadBack
pub mod Response
