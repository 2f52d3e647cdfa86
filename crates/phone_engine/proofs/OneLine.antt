-- By either rules a line has one report line, and a number that was read has a territory.
use Rattle.std.proofs.Common.{◌≡◌, ℕ, List, Option, None, Some, Result, Ok, Err, chars, refl, sym, ap, ap₂, ◌∙◌}
use Rattle.std.specs.Prelude.{⊤}
use Rattle.std.specs.Str.{IsUtf8}
use Rattle.std.proofs.lemmas.Option.{same_Some}
use Rattle.std.proofs.lemmas.Result.{IfErr-at_err, IfOk-at_ok, MatchResult-at_err}
use Rattle.phone_engine.proofs.OneReading.{has_territory, reading_same}
use Rattle.phone_values.specs.declared.rules.Rules.{Rules}
use Rattle.phone_plans.specs.CodeLookUps.{first_of, territories}
use Rattle.phone_records.specs.declared.loader.Metadata.{Metadata}
use Rattle.phone_engine.specs.ReportLines.{IsReportLine, number_line}
use Rattle.phone_engine.specs.ReportLines.IsReportLine.{no_text, refused, read}
use Rattle.phone_values.specs.declared.country.Id.{Id}
use Rattle.phone_values.specs.declared.error.ParseError.{ParseError}
use Rattle.phone_values.specs.declared.reading.Reading.{Reading}
use Rattle.phone_engine.specs.Readings.{ReadsBy}
use Rattle.phone_engine.specs.Words.{refusal_line}

-- a result is no `Ok` and `Err` at once
no_both : {T E : Type 0} (x : T) (e : E) → ◌≡◌ {A = Result T E} (Ok x) (Err e) → ⊥
no_both x e is = MatchResult-at_err {r = Ok x} (λ _. ⊤) (λ _. ⊥) e is tt

same_number : (rules : Rules) (db : List Metadata) (n k : Reading) (m l : Metadata) → n ≡ k → first_of (territories n.code.value db) ≡ Some m →
    first_of (territories k.code.value db) ≡ Some l → number_line rules db m n ≡ number_line rules db l k
same_number rules db n k m l e f g =
    ap₂ (number_line rules db) (same_Some m l (sym f ∙ ap (λ (r : Reading). first_of (territories r.code.value db)) e ∙ g)) e

pub one_report_line : (rules : Rules) (db : List Metadata) (hint : Option Id) (line a b : List ℕ) → IsReportLine rules db hint line a →
    IsReportLine rules db hint line b → a ≡ b
one_report_line rules db hint line _ _ (no_text n) (no_text n') = refl
one_report_line rules db hint line _ _ (no_text n) (refused e u r) = absurd (n u)
one_report_line rules db hint line _ _ (no_text n) (read k m u r f) = absurd (n u)
one_report_line rules db hint line _ _ (refused e u r) (no_text n) = absurd (n u)
one_report_line rules db hint line _ _ (refused e u r) (refused e' u' r') =
    ap refusal_line (IfErr-at_err (λ x. e ≡ x) (reading_same rules db hint (chars line) (Err e) (Err e') r r') refl)
one_report_line rules db hint line _ _ (refused e u r) (read k m u' r' f) =
    absurd (no_both k e (reading_same rules db hint (chars line) (Ok k) (Err e) r' r))
one_report_line rules db hint line _ _ (read k m u r f) (no_text n) = absurd (n u)
one_report_line rules db hint line _ _ (read k m u r f) (refused e u' r') =
    absurd (no_both k e (reading_same rules db hint (chars line) (Ok k) (Err e) r r'))
one_report_line rules db hint line _ _ (read k m u r f) (read k' m' u' r' f') =
    same_number rules db k k' m m' (IfOk-at_ok (λ x. k ≡ x) (reading_same rules db hint (chars line) (Ok k) (Ok k') r r') refl) f f'

line_of_number : (rules : Rules) (db : List Metadata) (hint : Option Id) (line : List ℕ) (n : Reading)
    (o : Option Metadata) → first_of (territories n.code.value db) ≡ o →
    IsUtf8 line → ReadsBy rules db hint (chars line) (Ok n) →
    (answer : List ℕ) × IsReportLine rules db hint line answer
line_of_number rules db hint line n None e u r = absurd (has_territory rules db hint (chars line) n r e)
line_of_number rules db hint line n (Some m) e u r = (number_line rules db m n, read n m u r e)

-- a text that has a reading has a report line
pub line_of_reading : (rules : Rules) (db : List Metadata) (hint : Option Id) (line : List ℕ)
    (r : Result Reading ParseError) → IsUtf8 line → ReadsBy rules db hint (chars line) r →
    (answer : List ℕ) × IsReportLine rules db hint line answer
line_of_reading rules db hint line (Ok n) u r = line_of_number rules db hint line n
    (first_of (territories n.code.value db)) refl u r
line_of_reading rules db hint line (Err e) u r = (refusal_line e, refused e u r)
