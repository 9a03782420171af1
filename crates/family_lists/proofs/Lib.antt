pub mod Lists
pub mod Order
pub mod SetLists
pub mod Sizes
pub mod MinimalSets
pub mod SetsOfFamily
