pub mod Lists
pub mod ListOfCalls
pub mod OneCall
pub mod Stay
