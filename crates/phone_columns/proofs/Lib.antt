pub mod AnswersOnce
pub mod BodyLemmas
pub mod CallLemmas
pub mod KindLemmas
pub mod OffsetLemmas
pub mod RowLemmas
pub mod TextLemmas
