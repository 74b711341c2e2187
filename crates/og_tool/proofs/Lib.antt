pub mod RunParts
pub mod Layers
pub mod GivenStimuli
pub mod ProgramParts
pub mod RunningParts
pub mod ReadingParts
pub mod OneOutput
pub mod OneSimulation
