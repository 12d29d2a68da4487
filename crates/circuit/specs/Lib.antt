-- Definitions, to be believed: annotation and locations, the correlation check, and the replies of the three calls.
pub mod Annotate
pub mod Correlation
pub mod Replies
-- The annotated list, and that the annotated text says it, for a reader.
pub mod Annotated
