-- What a mobile phone dials, of the number of plain numbers.
use Rattle.std.proofs.Common.{◌≡◌, ℕ, ◌==◌, not, List}
use Rattle.phone_values.specs.declared.reading.Reading.{Reading}
use Rattle.phone_records.specs.declared.loader.Metadata.{Metadata}
use Rattle.phone_further.specs.Answers.{mobile_text_in}
use Rattle.phone_c_base.specs.Numbers.{IsNumber}
use Rattle.phone_c_base.specs.declared.number.Number as plain
use Rattle.phone_c_questions.specs.Own.{IsOwnMobileText}

pub mobile_told : (db : List Metadata) (id : List ℕ) (symbols : ℕ) (x : plain.Number) (bytes text : List ℕ) (n : Reading) → IsNumber x bytes n →
    text ≡ mobile_text_in db id (not (symbols == 0)) n → IsOwnMobileText db id symbols x bytes text
mobile_told db id symbols x bytes text n is t = (n, is, t)
