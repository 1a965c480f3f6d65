pub mod Words
mod Lists
mod Slots
mod Pushed
pub mod Tabled
pub mod Withdrawn
mod Exchanging
pub mod Laying
pub mod Parking
pub mod Owed
