mod ByText
mod Digits
mod Kept
mod Laid
mod NewZealand
mod Prefixed
mod Searches
mod SideBySide
