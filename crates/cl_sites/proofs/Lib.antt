pub mod Narrow
pub mod PlacesOfParts
pub mod PlacesOfTexts
