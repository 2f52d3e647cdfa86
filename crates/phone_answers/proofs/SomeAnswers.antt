-- A text that has a reading has an answer, and so has each field, and each line an object.
use Rattle.std.proofs.Common.{◌≡◌, ℕ, List, Option, None, Some, Bool, true, false, Result, Ok, Err}
use Rattle.std.proofs.Common.{chars, codes, refl}
use Rattle.std.specs.Str.{IsUtf8}
use Rattle.serde_json.specs.Data.{Data, null, string}
use Rattle.phone_values.specs.Refusals.{report_words}
use Rattle.phone_values.specs.declared.country.Id.{Id}
use Rattle.phone_values.specs.declared.error.ParseError.{ParseError}
use Rattle.phone_values.specs.declared.reading.Reading.{Reading}
use Rattle.phone_values.specs.declared.rules.Rules.{Rules}
use Rattle.phone_csv.specs.Formats.{Record}
use Rattle.phone_plans.specs.CodeLookUps.{first_of, territories}
use Rattle.phone_records.specs.declared.loader.Metadata.{Metadata}
use Rattle.phone_short.specs.declared.kind.ShortKind.{ShortKind}
use Rattle.phone_short.specs.declared.kind.ShortKind.TheVariants.{Emergency, ShortNumber}
use Rattle.phone_engine.specs.Readings.{ReadsBy}
use Rattle.phone_engine.proofs.OneReading.{has_territory}
use Rattle.phone_answers.specs.Answers.{IsFieldAnswer, IsReply, IsTextAnswer, is_blank}
use Rattle.phone_answers.specs.Answers.{is_valid_number, number_answer, refused_answer}
use Rattle.phone_answers.specs.Answers.IsFieldAnswer.{no_text, of_text}
use Rattle.phone_answers.specs.Answers.IsReply.{blank, read, refused}
use Rattle.phone_answers.specs.Answers.IsTextAnswer.{emergency, no_short_number, short_number}
use Rattle.phone_answers.specs.Answers.IsTextAnswer.{valid_number}
use Rattle.phone_answers.specs.Extras.{ask_fields}
use Rattle.phone_answers.specs.Objects.{IsObject, object_of}
use Rattle.phone_answers.specs.Objects.IsObject.{no_text as no_text_object, of_text as object_of_text}
use Rattle.phone_answers.specs.Shorts.{short_answer, short_in}
use Rattle.phone_answers.specs.declared.extra.Extra.{Extra}
use Rattle.phone_answers.proofs.SomeTold.{all_told}

module _ (rules : Rules) (db : List Metadata) (hint : Option Id) (text : List ℕ) where
  -- a reply to the text
  abbrev pub HasReply : Type 0
  HasReply = (number : Option Reading) × (reply : Record) × IsReply rules db hint text number reply

  reply_of_number : (n : Reading) (o : Option Metadata) →
      first_of (territories n.code.value db) ≡ o → is_blank text ≡ false →
      ReadsBy rules db hint (chars text) (Ok n) → HasReply
  reply_of_number n None e some r = absurd (has_territory rules db hint (chars text) n r e)
  reply_of_number n (Some m) e some r = (Some n, number_answer rules db m n, read n m some r e)

  reply_of_reading : (b : Bool) → is_blank text ≡ b → (r : Result Reading ParseError) →
      ReadsBy rules db hint (chars text) r → HasReply
  reply_of_reading true e r h = (None, _, blank e)
  reply_of_reading false e (Err x) h = (None, refused_answer (report_words x), refused x e h)
  reply_of_reading false e (Ok n) h =
      reply_of_number n (first_of (territories n.code.value db)) refl e h

  module _ (short : Option (List Metadata)) where
    -- an answer to it
    abbrev pub HasTextAnswer : Type 0
    HasTextAnswer =
        (number : Option Reading) ×
        (answer : Record) × IsTextAnswer rules db short hint text number answer

    of_short_number : (region : Id) → short_in short hint text ≡ Some (region, ShortNumber) →
        (number : Option Reading) (reply : Record) →
        IsReply rules db hint text number reply → (b : Bool) → is_valid_number rules db number ≡ b →
        HasTextAnswer
    of_short_number region e n a h true v = (n, a, valid_number region n a e h v)
    of_short_number region e n a h false v =
        (None, short_answer region ShortNumber, short_number region n a e h v)

    answer_of_reply : (o : Option (Id × ShortKind)) → short_in short hint text ≡ o → HasReply →
        HasTextAnswer
    answer_of_reply None e (n, a, h) = (n, a, no_short_number n a e h)
    answer_of_reply (Some (region, Emergency)) e r =
        (None, short_answer region Emergency, emergency region e)
    answer_of_reply (Some (region, ShortNumber)) e (n, a, h) =
        of_short_number region e n a h (is_valid_number rules db n) refl

    -- a field that is a text with a reading has an answer
    pub answer_of_reading : IsUtf8 text → (r : Result Reading ParseError) →
        ReadsBy rules db hint (chars text) r →
        (number : Option Reading) ×
        (answer : Record) × IsFieldAnswer rules db short hint text number answer
    answer_of_reading u r h =
        let a =
        answer_of_reply (short_in short hint text) refl
        (reply_of_reading (is_blank text) refl r h) in
        (a.0, a.1, of_text a.0 a.1 u a.2)

-- a line has an object where it has an answer
pub object_of_answer : (rules : Rules) (db : List Metadata) (short : Option (List Metadata))
    (extra : List Extra) (hint : Option Id) (place : ℕ) (line : List ℕ) (n : Option Reading)
    (a : Record) → ask_fields extra ≡ false → IsFieldAnswer rules db short hint line n a →
    (d : Data) × IsObject rules db short extra hint place line d
object_of_answer rules db short extra hint place line _ _ others (no_text x) =
    let words = refused_answer (codes "not UTF-8") in
    let told = all_told rules db (Some hint) line None extra others in (
      object_of rules db place null None words extra told.0,
      no_text_object None words told.0 x (no_text x) told.1,
    )
object_of_answer rules db short extra hint place line _ _ others (of_text n a u h) =
    let told = all_told rules db (Some hint) line n extra others in (
      object_of rules db place (string line) n a extra told.0,
      object_of_text n a told.0 u (of_text n a u h) told.1,
    )
