-- The part of a text that a number is read from: as libphonenumber has it.
use Rattle.std.specs.Prelude.{◌≡◌, ℕ, ◌==◌, if◌then◌else◌, List, [], ◌∷◌, ◌++◌, codes, Option}
use Rattle.std.specs.Prelude.{None, Some, chars, option_map}
use Rattle.std.specs.Borrow.{Bor}
use Rattle.std.specs.Option.{is_some, option_map_or}
use Rattle.phone_parts.specs.Cores.{IsCore}
use Rattle.phone_parts.specs.Texts.{begins}
use Rattle.phone_library_text.specs.Contexts.{IsContext}
use Rattle.phone_library_text.specs.Places.{before_first, parted}

-- what names the context of a local number
abbrev pub context_name : List ℕ
context_name = codes ";phone-context="

-- what stands before a place, unless that is at the start; then all of the text, as without a place
abbrev pub before_place : Option (List ℕ × List ℕ) → List ℕ → List ℕ
before_place (Some (c ∷ cs, after)) t = c ∷ cs
before_place _ t = t

-- without an ISDN subaddress, which `;isub=` begins
abbrev pub without_subaddress : List ℕ → List ℕ
without_subaddress t = before_place (parted (codes ";isub=") t) t

-- of what stands before the context: what follows the text's first `tel:`, or all of it where the
-- text has none
abbrev pub local_part : List ℕ → List ℕ → List ℕ
local_part t front = option_map_or (λ (p : List ℕ × List ℕ). p.1) (parted (codes "tel:") front)
    (if is_some (parted (codes "tel:") t) then [] else front)

-- a context that begins with a plus sign stands before the local number; a domain's name doesn't
abbrev pub global_part : List ℕ → List ℕ
global_part context = if begins (λ c. c == 43) context then context else []

-- what names a context, up to the next semicolon
abbrev pub context_in : List ℕ → List ℕ
context_in after = before_first (codes ";") after

-- the part of a text that a number is read from; none where there is no number in it
pub data HasNumberText (t : List ℕ) : Option (List ℕ) → Type 0 where
  -- with a context: the local number after it
  local : (front after : List ℕ) → parted context_name t ≡ Some (front, after) →
      IsContext (context_in after) → HasNumberText t
      (Some (without_subaddress (global_part (context_in after) ++ local_part t front)))
  -- with what is no context
  no_context : (front after : List ℕ) → parted context_name t ≡ Some (front, after) →
      ¬ (IsContext (context_in after)) → HasNumberText t None
  -- free text: its core
  free : (core : List ℕ) → parted context_name t ≡ None → IsCore t core →
      HasNumberText t (Some (without_subaddress core))
  -- without a core
  nothing : parted context_name t ≡ None → ((core : List ℕ) → ¬ (IsCore t core)) →
      HasNumberText t None

-- the characters of a text that may be there
abbrev pub chars_of : Option (Bor (List ℕ)) → Option (List ℕ)
chars_of text = option_map (λ (t : Bor (List ℕ)). chars t.now) text
