pub mod Numbers
pub mod Opens
pub mod Joins
pub mod TextLays
pub mod ExpressionTexts
pub mod ProgramTexts
