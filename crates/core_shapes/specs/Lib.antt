pub mod At
pub mod Lists
pub mod Forms
pub mod Written
