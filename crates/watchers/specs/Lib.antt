pub mod Steps
pub mod TableWatchers
pub mod StepTellingLemmas
pub mod Lost
pub mod TableTellingLemmas
