pub mod ReadUnits
pub mod WrittenUnits
pub mod FileAnswers
mod Beside
mod AlikeExpressions
mod AlikeBodies
mod AlikeStates
mod AlikeUnits
mod SameTokens
mod Worked
mod PlacesKept
mod PlacesOfExpressions
mod PlacesOfBodies
mod PlacesOfStates
mod PlacesOfUnits
mod PlacesWorked
