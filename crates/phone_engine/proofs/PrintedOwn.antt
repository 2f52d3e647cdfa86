-- What a printer without a layout of its own prints.
use Rattle.std.proofs.Common.{◌≡◌, ℕ, List, Option, None, Some, sym, ap, ◌∙◌}
use Rattle.phone_values.specs.declared.mode.Mode.{Mode}
use Rattle.phone_values.specs.declared.reading.Reading.{Reading}
use Rattle.phone_records.specs.declared.loader.Format.{Format}
use Rattle.phone_records.specs.declared.loader.Metadata.{Metadata}
use Rattle.phonenumber.specs.Printed.{printed}

-- what a printer of a number under a database, without a layout of its own, prints
pub printed_own : (db' db : List Metadata) (mode : Mode) (own : Option Format) (n' n : Reading) (text : List ℕ) → db' ≡ db → own ≡ None → n' ≡ n →
    printed db' mode own n' ≡ Some text → printed db mode None n ≡ Some text
printed_own db' db mode own n' n text d o e h =
    sym (ap (λ x. printed x mode own n') d ∙ ap (λ x. printed db mode x n') o ∙ ap (λ x. printed db mode None x) e) ∙ h
