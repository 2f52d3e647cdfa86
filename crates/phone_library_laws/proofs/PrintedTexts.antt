-- The characters of a printed text, and of the extension in it.
use Rattle.std.proofs.Common.{◌≡◌, List, ℕ, chars, codes, ◌++◌, Option, None, Some, option_map, ap}
use Rattle.std.proofs.Common.{sym, ◌∙◌, refl}
use Rattle.std.proofs.lemmas.Str.{chars-append, chars-nil}
use Rattle.phone_values.specs.declared.mode.Mode.{Mode}
use Rattle.phone_values.specs.declared.reading.Reading.{Reading}
use Rattle.phone_plans.specs.CodeLookUps.{first_of, territories}
use Rattle.phone_print.specs.Texts.{extension_parameter, extension_part, text_by_rules}
use Rattle.phone_records.specs.declared.loader.Metadata.{Metadata}
use Rattle.phone_values.specs.declared.rules.Rules.{Rules}
use Rattle.phone_library.specs.Printed.{printed_by}
use Rattle.phonenumber.proofs.BackTexts.{IsUtf8-low, chars-low}
use Rattle.phone_library_laws.specs.Announced.{IsAnnouncedIfAny, IsParameterIfAny, prefix_of}
use Rattle.phone_library_laws.proofs.Tails.{tail}

-- the characters of an extension behind what announces it
pub chars-part : (m : Metadata) (e : Option (List ℕ)) → IsAnnouncedIfAny (prefix_of m) e →
    chars (extension_part m e) ≡ tail (chars (prefix_of m)) e
chars-part m None h = chars-nil
chars-part m (Some e) h = chars-append (prefix_of m) e h.utf8

-- the text that is printed is the text of the mode by the first territory
pub printed_text : (whose : Rules) (db : List Metadata) (mode : Mode) (n : Reading) (m : Metadata) (text : List ℕ) →
    first_of (territories n.code.value db) ≡ Some m →
    printed_by whose db mode n ≡ Some text → text_by_rules whose m mode None n ≡ text
printed_text whose db mode n m text listed e =
    let same : Some (text_by_rules whose m mode None n) ≡ Some text =
    sym (ap (option_map (λ m. text_by_rules whose m mode None n)) listed) ∙ e in cc

-- and behind its parameter
pub chars-parameter : (e : Option (List ℕ)) → IsParameterIfAny e →
    chars (extension_parameter e) ≡ tail (codes ";ext=") e
chars-parameter None h = chars-nil
chars-parameter (Some e) h =
    chars-append (codes ";ext=") e (IsUtf8-low (codes ";ext=") refl)
    ∙ ap (λ w. w ++ chars e) (chars-low (codes ";ext=") refl)
