-- The parts of a number as texts, and where they stand: after the number of the original's
-- `parser/helper`.
use Rattle.std.specs.Prelude.{ℕ, List, Option, ◌≡◌, ◌++◌, IfSome, chars}
use Rattle.std.specs.Option.{option_map}
use Rattle.std.specs.Cow.{cow_str_bytes, IsBorrowedStr}
use Rattle.std.specs.declared.borrow.CowStr.{CowStr}
use Rattle.phone_parts.specs.declared.number.Number.{Number}

-- what a reader finds in a text: the national part, and prefix and extension where there are any
pub record Parts : Type 0 where
  pub national : List ℕ
  pub prefix : Option (List ℕ)
  pub extension : Option (List ℕ)

-- the part stands in the text; both are told by their bytes
pub record IsSlice (text part : List ℕ) : Type 0 where
  pub before : List ℕ
  pub after : List ℕ
  pub whole : text ≡ before ++ (part ++ after)

-- both numbers have one source and the same texts
pub record HasSameParts (a b : Number) : Type 0 where
  pub country : a.country ≡ b.country
  pub national : cow_str_bytes a.national ≡ cow_str_bytes b.national
  pub prefix : option_map cow_str_bytes a.prefix ≡ option_map cow_str_bytes b.prefix
  pub extension : option_map cow_str_bytes a.extension ≡ option_map cow_str_bytes b.extension
  pub carrier : option_map cow_str_bytes a.carrier ≡ option_map cow_str_bytes b.carrier

-- the part is lent from the text
pub record IsLent {Z : Type 0} (text : List ℕ) (part : CowStr Z) : Type 0 where
  pub borrowed : IsBorrowedStr part
  pub slice : IsSlice text (cow_str_bytes part)

-- national part, prefix and extension are lent from the text
pub record AreLent (text : List ℕ) (n : Number) : Type 0 where
  pub national : IsLent text n.national
  pub prefix : IfSome n.prefix (λ p. IsLent text p)
  pub extension : IfSome n.extension (λ e. IsLent text e)

-- what a number says, in characters
abbrev pub parts_of : Number → Parts
parts_of n = record {
  national = chars (cow_str_bytes n.national);
  prefix = option_map (λ p. chars (cow_str_bytes p)) n.prefix;
  extension = option_map (λ e. chars (cow_str_bytes e)) n.extension;
}
