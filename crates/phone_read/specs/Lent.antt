-- What is lent from a text, and stays lent while its calling code and its prefixes are cut off.
use Rattle.std.specs.Prelude.{◌≡◌, ◌⊎◌, Bool, true, false, None, IfSome, chars}
use Rattle.std.specs.Cow.{cow_str_bytes, IsBorrowedStr}
use Rattle.std.specs.List.{list_all}
use Rattle.std.specs.declared.borrow.CowStr.{CowStr}
use Rattle.phone_chars.specs.Characters.{is_digit, is_plus}
use Rattle.phone_chars.specs.Cuts.{after_front}
use Rattle.phone_values.specs.declared.country.Source.TheVariants.{Default}
use Rattle.phone_parts.specs.declared.number.Number.{Number as Parts}

-- a part is lent, and ASCII digits after its leading plus signs
pub record IsLentDigits {Z : Type 0} (part : CowStr Z) : Type 0 where
  pub borrowed : IsBorrowedStr part
  pub digits : list_all is_digit (after_front is_plus (chars (cow_str_bytes part))) ≡ true

-- what of r is lent, where the national part of the number that was given is; a rule may have
-- written its digits anew
pub record KeepsLent (given : Parts) (anew : Bool) (r : Parts) : Type 0 where
  -- the national part, unless its digits were written anew
  pub national : anew ≡ false → IsBorrowedStr r.national
  -- the prefix, where none was given, and the code is told by the number itself
  pub prefix : given.prefix ≡ None → ¬ (r.country ≡ Default) →
      IfSome r.prefix (λ p. IsBorrowedStr p)
  -- the carrier, where it isn't the one that was given
  pub carrier : (r.carrier ≡ given.carrier) ⊎ IfSome r.carrier (λ c. IsBorrowedStr c)
