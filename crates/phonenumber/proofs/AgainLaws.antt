-- A number that is printed and read again, by the laws of reading back.
use Rattle.std.proofs.Common.{◌≡◌, inl, inr, List, ℕ, IsUtf8, Option, None, Some, option_map, Result, Ok, refl, ap, sym, subst, ◌∙◌}
use Rattle.std.specs.Str.{chars}
use Rattle.phone_values.specs.declared.error.ParseError.{ParseError}
use Rattle.phone_values.specs.declared.mode.Mode.{Mode}
use Rattle.phone_plans.specs.CodeLookUps.{first_of, territories}
use Rattle.phone_records.specs.declared.loader.Metadata.{Metadata}
use Rattle.phone_read.proofs.ReadingOnes.{reading_same}
use Rattle.phone_values.specs.declared.reading.Reading.{Reading}
use Rattle.phonenumber.specs.RoundTrips.{IsAgain, IsReadAs, IsReadOfPrinted}
use Rattle.phonenumber.specs.Printed.{printed}
use Rattle.phone_print.specs.Texts.{text_by}

-- what is read of the text is the number, as a text has one reading
pub again_by : (db : List Metadata) (mode : Mode) (n : Reading) (m : Metadata) (e : Option (List ℕ)) (r : Result Reading ParseError) → first_of (territories n.code.value db) ≡ Some m →
    ((text : List ℕ) → IsUtf8 text → printed db mode None n ≡ Some text → IsReadAs db (chars text) n e) →
    IsReadOfPrinted db mode n r → IsAgain n e r
again_by db mode n m e r listed back (inl memory) = subst (IsAgain n e) (sym memory) refl
again_by db mode n m e r listed back (inr (inl (none, unlisted))) =
    let some : Some (text_by m mode None n) ≡ None = sym (ap (option_map (λ m. text_by m mode None n)) listed) ∙ none in cc
again_by db mode n m e r listed back (inr (inr (text, utf8, is_printed, reads))) =
    let (m, is_read, same) = back text utf8 is_printed in
    subst (IsAgain n e) (reading_same db None (chars text) (Ok m) r is_read reads) same
