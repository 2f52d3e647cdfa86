-- Classes of digits, as the grammar of patterns reads them.
use Rattle.std.specs.Prelude.{◌≡◌, ◌≤◌, ◌<◌, ℕ, ◌+◌, ◌*◌, suc, true, List, [], ◌∷◌, map, length}
use Rattle.std.specs.Prelude.{Some}
use Rattle.std.specs.List.{list_any}
use Rattle.regex_class.specs.Ranges.{Range, in_range, in_ranges, HasExactly}
use Rattle.regex_class.specs.declared.Class.{Class}
use Rattle.regex_syntax.specs.Brackets.{Nested, flat, unite, set_items, bracket}
use Rattle.regex_syntax.specs.Reading.{◌>>=◌}
use Rattle.regex_syntax.specs.Sets.{Set}
use Rattle.phone_plain.specs.Grammar.{verbose}

-- all of these are digits
abbrev pub AreDigits : List Range → Type 0
AreDigits rs = (c : ℕ) → in_ranges rs c ≡ true → (48 ≤ c) × (c ≤ 57)

-- a text begins with a digit or a range of digits, and this is behind it
pub record IsMember (text : List ℕ) (range : Range) (rest : List ℕ) : Type 0 where
  pub set : Set
  pub same : (c : ℕ) → set c ≡ in_range range c
  pub low : 48 ≤ range.0
  pub high : range.1 ≤ 57
  pub goes_on : length rest < length text
  pub reads : (m : ℕ) → set_items verbose (suc m) text ≡
      (set_items verbose m rest >>= λ (others, end). Some (flat set ∷ others, end))

-- a text begins with these digits and ranges of digits, and this is behind them
pub record AreMembers (text : List ℕ) (ranges : List Range) (rest : List ℕ) : Type 0 where
  pub parts : List (Nested Set)
  pub same : (c : ℕ) → list_any (λ set. set c) (map (λ part. part.value) parts) ≡ in_ranges ranges c
  pub digits : AreDigits ranges
  pub goes_on : length rest ≤ length text
  pub reads : (n : ℕ) → 2 * length text + 1 ≤ n → (m : ℕ) × (2 * length rest + 1 ≤ m) ×
      (unite [] (set_items verbose n text) ≡ unite parts (set_items verbose m rest))

-- after its opening bracket, a text is that of a class of digits, and this is behind it
pub record IsClass (text : List ℕ) (class : Class) (rest : List ℕ) : Type 0 where
  pub members : Nested Set
  pub exact : HasExactly class.ranges.items members.value
  pub digits : AreDigits class.ranges.items
  pub goes_on : length rest < length text
  pub reads : (n : ℕ) → 2 * length text + 3 ≤ n →
      bracket verbose n (91 ∷ text) ≡ Some (members, rest)
