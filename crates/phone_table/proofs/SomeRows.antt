-- Each record has an answer.
use Rattle.std.proofs.Common.{◌≡◌, ◌⊎◌, ⊎_elim, inl, inr, ℕ, Bool, true, false, List}
use Rattle.std.proofs.Common.{◌++◌}
use Rattle.std.proofs.Common.{length, Option, None, Some, refl}
use Rattle.std.proofs.lemmas.Bool.{cases_eq}
use Rattle.phone_values.specs.declared.country.Id.{Id}
use Rattle.phone_values.specs.declared.reading.Reading.{Reading}
use Rattle.phone_values.specs.declared.rules.Rules.{Rules}
use Rattle.phone_csv.specs.Formats.{Record}
use Rattle.phone_records.specs.declared.loader.Metadata.{Metadata}
use Rattle.phone_answers.specs.Answers.{IsFieldAnswer}
use Rattle.phone_table.specs.Answers.{IsAnswer, IsAnswerUnder, IsOfOtherWidth}
use Rattle.phone_table.specs.Answers.{IsOwnAnswer, IsUnder, countries_of, short_of}
use Rattle.phone_answers.specs.Extras.{ask_fields}
use Rattle.phone_table.specs.declared.header.Columns.{Columns}
use Rattle.phone_table.specs.declared.run.Asked.{Asked}
use Rattle.phone_table.specs.Regions.{RegionText, field_in, hint_under, named_by}
use Rattle.phone_answers.proofs.SomeTold.{all_told}

module _ (rules : Rules) (db : List Metadata) where
  module _ (hint : Option Id) (columns : Columns) (asked : Asked) (others : ask_fields asked.extra.now ≡ false) (fields : Record) where
    -- under each hint the record's field has an answer
    abbrev pub HasAnswers : Type 0
    HasAnswers = (own : Option Id) → (number : Option Reading) × (answer : Record) ×
        IsFieldAnswer rules db (short_of asked) own (field_in fields columns.number) number answer

    under_some : (o : Option (Option Id)) → HasAnswers →
        (number : Option Reading) × (answer : Record) ×
        IsAnswerUnder rules db (short_of asked) o (field_in fields columns.number) number answer
    under_some None has = (None, _, (refl, refl))
    under_some (Some own) has = has own

    with_told : (under : Option (Option Id)) → IsUnder db hint columns asked fields under → (n : Option Reading) (own : Record) →
        IsOwnAnswer rules db columns asked fields under n own →
        (answer : Record) × IsAnswer rules db hint columns asked fields answer
    with_told under by n own is =
        let t = all_told rules db under (field_in fields columns.number) n asked.extra.now others in
        (t.0 ++ own, (n, (under, t.0, own, by, is, t.1, refl)))

    -- a record of other width is marked, or isn't answered
    of_other_width : (length fields ≡ columns.width → ⊥) → (b : Bool) → asked.mark_bad ≡ b →
        ((answer : Record) × IsAnswer rules db hint columns asked fields answer) ⊎
        IsOfOtherWidth columns asked fields
    of_other_width other true e = inl (with_told None (inr (other, refl)) None _ (inr (refl, (e, other, refl))))
    of_other_width other false e = inr (e, other)

    -- each record is answered, but for such
    pub answer_some : (text : Option (List ℕ)) → RegionText fields columns.region text → HasAnswers →
        ((answer : Record) × IsAnswer rules db hint columns asked fields answer) ⊎
        IsOfOtherWidth columns asked fields
    answer_some text is has = ⊎_elim
        (λ width. let region = named_by (countries_of asked) db text in
        let under = hint_under asked.else_hint hint region in
        let a = under_some under has in
        inl (with_told under (inl (width, region, (text, is, refl), refl)) a.0 a.1 (inl (width, a.2))))
        (λ other. of_other_width other asked.mark_bad refl)
        (cases_eq (length fields) columns.width)
