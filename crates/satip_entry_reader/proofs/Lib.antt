pub mod ListsAgain
pub mod Loops
pub mod Again
pub mod EventsAgain
pub mod EntriesAgain
pub mod TakingSteps
pub mod ValuesAgain
pub mod AnswersAgain
