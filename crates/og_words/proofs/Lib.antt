pub mod CommandForms
pub mod OneCommand
pub mod WordExamples
