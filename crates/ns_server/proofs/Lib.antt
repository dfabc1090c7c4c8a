pub mod WordsLemmas
pub mod WordLines
pub mod EventSpelling
pub mod OneLoad
pub mod Loading
pub mod Making
