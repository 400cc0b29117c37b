pub mod Generated
pub mod GeneratedFits
pub mod PrintSteps
pub mod PrintedActs
pub mod PrintedAreLines
pub mod PrintedBody
pub mod PrintedCommands
pub mod PrintedHeader
pub mod PrintedLines
pub mod PrintedMembers
pub mod PrintedNumbers
pub mod PrintedOperands
pub mod PrintedScript
pub mod PrintedWords
mod ReadBody
mod ReadCommands
mod ReadHeader
mod ReadLines
mod ReadMembers
mod ReadOperands
mod ReadText
mod ReadVerbs
