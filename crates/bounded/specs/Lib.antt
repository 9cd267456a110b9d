pub mod Count
pub mod Filled
pub mod Lists
