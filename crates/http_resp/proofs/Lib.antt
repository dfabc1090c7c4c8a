pub mod MomentLemmas
pub mod FieldLemmas
pub mod ContentLemmas
pub mod RepliesLemmas
pub mod LineLemmas
