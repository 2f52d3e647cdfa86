-- What `phone_pattern` says of patterns: the first match of a pattern text in a text, under flag x.
-- what a pattern is, its first match in a text, its groups' names
unfoldable pub use Rattle.phone_pattern.specs.First.{IsPattern, first_match, names_in}
-- the options of a pattern; what is seen of a match, and where it stands
pub use Rattle.phone_pattern.specs.First.{verbose, Seen, seen_of, first_span, at_start, led_by}
-- a match of the whole text, its groups, what it captures
pub use Rattle.phone_pattern.specs.First.{is_whole_match, group_in, last_group, captured_by}
-- that spans cut no character; a match replaced by what a template writes
pub use Rattle.phone_pattern.specs.First.{captured, IsCut, AreCuts, with_first_replaced, replaced}
-- that a compiled pattern is that of a text, one of a list, or lent
pub use Rattle.phone_pattern.specs.First.{IsUnderX, IsPatternOf, ArePatternsOf, IsLentPattern}
-- the spans that a match captures
pub use Rattle.phone_pattern.specs.declared.pattern.Captured.{Captured}
