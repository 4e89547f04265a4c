pub mod Listings
pub mod Meanings
pub mod Picks
