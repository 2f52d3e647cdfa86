-- By either rules a text has one reading, and of a number that is read the calling code is listed.
use Rattle.std.proofs.Common.{◌≡◌, ◌⊎◌, inl, inr, ℕ, true, List, Option, None, Result, Ok, Err, chars, sym, subst, ◌∙◌, true≢false}
use Rattle.phone_values.specs.declared.country.Id.{Id}
use Rattle.phone_values.specs.declared.error.ParseError.{ParseError}
use Rattle.phone_values.specs.declared.reading.Reading.{Reading}
use Rattle.phone_library_laws.proofs.ReadOnce as second
use Rattle.phone_library_text.proofs.WrittenOnes.{written_same}
use Rattle.phone_plans.specs.CodeLookUps.{first_of, is_listed, territories}
use Rattle.phone_read.proofs.ListedFronts.{listed_none}
use Rattle.phone_read.proofs.ReadNumbers.{number-listed}
use Rattle.phone_read.proofs.ReadingOnes as first
use Rattle.phone_records.specs.declared.loader.Metadata.{Metadata}
use Rattle.phone_engine.proofs.ListedCodes.{library-listed}
use Rattle.phone_engine.specs.Readings.{ReadsBy}
use Rattle.phone_values.specs.declared.rules.Rules.{Rules}
use Rattle.phone_values.specs.declared.rules.Rules.TheVariants.{Library, Crate}

pub reading_same : (rules : Rules) (db : List Metadata) (hint : Option Id) (t : List ℕ) (a b : Result Reading ParseError) → ReadsBy rules db hint t a →
    ReadsBy rules db hint t b → a ≡ b
reading_same Library db hint t a b h g = second.reading_same written_same db hint t a b h g
reading_same Crate db hint t a b h g = first.reading_same db hint t a b h g

pub code-listed : (rules : Rules) (db : List Metadata) (hint : Option Id) (t : List ℕ) (n : Reading) → ReadsBy rules db hint t (Ok n) →
    is_listed n.code.value db ≡ true
code-listed Library db hint t n h = library-listed db hint t n h
code-listed Crate db hint t n h = number-listed db hint t n h

-- so some territory has it
pub has_territory : (rules : Rules) (db : List Metadata) (hint : Option Id) (t : List ℕ) (n : Reading) → ReadsBy rules db hint t (Ok n) →
    ¬ (first_of (territories n.code.value db) ≡ None)
has_territory rules db hint t n h none = true≢false (sym (code-listed rules db hint t n h) ∙ listed_none n.code.value db (sym none))

-- a reader that may refuse for memory answers a number, of a text with these bytes
pub number_reads : (rules : Rules) (db : List Metadata) (hint : Option Id) {bytes text : List ℕ} {n : Reading} {e : ParseError} → text ≡ bytes →
    (◌≡◌ {A = Result Reading ParseError} (Ok n) (Err e)) ⊎ ReadsBy rules db hint (chars text) (Ok n) → ReadsBy rules db hint (chars bytes) (Ok n)
number_reads rules db hint same (inl other) = absurd (cc)
number_reads rules db hint {n = n} same (inr h) = subst (λ t. ReadsBy rules db hint (chars t) (Ok n)) same h
