-- Lines of the report, computed on their definition.
use Rattle.std.proofs.Common.{◌≡◌, inl, ℕ, Bool, false, Option, List, [], ◌∷◌, ◌++◌, codes, Some, None, Ok, Err, refl, ap, sym, subst, ◌∙◌, true≢false, arith, ◌==◌}
use Rattle.std.proofs.lemmas.Fmt.{decimal_digit, decimal_step}
use Rattle.std.proofs.lemmas.Str.{is_utf8-from_IsUtf8}
use Rattle.std.specs.Fmt.{decimal}
use Rattle.std.specs.Option.{option_and_then, option_map_or}
use Rattle.std.specs.Str.{chars, is_utf8}
use Rattle.phone_values.specs.Ids.{id_of, name}
use Rattle.phone_chars.specs.Viable.{IsViable}
use Rattle.phone_values.specs.declared.country.Id.{Id}
use Rattle.phone_values.specs.declared.country.Id.TheVariants.{NZ}
use Rattle.phone_values.specs.declared.country.Source.TheVariants.{Default}
use Rattle.phone_values.specs.declared.error.ParseError.TheVariants.{NoNumber}
use Rattle.phone_values.specs.declared.kind.«Type».{«Type»}
use Rattle.phone_values.specs.declared.kind.«Type».TheVariants.{Unknown}
use Rattle.phone_values.specs.declared.mode.Mode.TheVariants.{E164, International, National, Rfc3966}
use Rattle.phone_records.specs.declared.loader.Metadata.{Metadata}
use Rattle.phone_values.proofs.Texts.{id_of-name}
use Rattle.phone_chars.proofs.ViableRows.{not_viable}
use Rattle.phone_read.specs.Hints.{code_by_hint}
use Rattle.phone_read.specs.Readings.{Reads}
use Rattle.phone_read.specs.Regions.{home}
use Rattle.phone_read.specs.Kinds.{type_of, is_known}
use Rattle.phone_read.specs.Samples.{nz}
use Rattle.phone_parts.specs.Texts.{begins}
use Rattle.phone_values.specs.declared.reading.Reading.{Reading}
use Rattle.phone_read.proofs.DigitTexts.{encode_utf8_all-digits}
use Rattle.phone_read.proofs.HintCodes.{code_by_hint-other}
use Rattle.phone_read.proofs.ReadingRows.{decimal_64}
use Rattle.phone_engine.specs.ReportLines as Reports
use Rattle.phone_values.specs.declared.rules.Rules.TheVariants.{Crate}
use Rattle.phonenumber.specs.Queries.{kind_of_number, region_of_number, is_valid}
use Rattle.phone_engine.specs.ReportLines.{IsReportLine, number_line}
use Rattle.phone_engine.specs.Words.{kind_word, region_word, validity_word}
use Rattle.phone_print.specs.Tabbed.{tabbed}
use Rattle.phone_print.specs.Texts.{text_by}
use Rattle.phonenumber.specs.Thin
use Rattle.phonenumber.specs.Thin.{IsThinDatabase, thin_reading}
use Rattle.phonenumber.proofs.BackTexts.{IsUtf8-low, chars-low}
use Rattle.phonenumber.proofs.ThinReadings.{thin_reads}

pub no_text : IsReportLine Crate (nz ∷ []) (Some NZ) (0xFF ∷ []) (codes "error\t0\tnot UTF-8")
unfolding is_utf8 chars lib.Utf8.encode
no_text = Reports.no_text (λ h. true≢false (sym (is_utf8-from_IsUtf8 (0xFF ∷ []) h)))

nz_is_thin : IsThinDatabase (nz ∷ [])
nz_is_thin = record { general = _; id = _; code = _; national_prefix = _; whole = refl }

one_too_few : ¬ (IsViable (codes "1"))
one_too_few = not_viable (codes "1") (λ e. cc) refl

pub refused : IsReportLine Crate (nz ∷ []) (Some NZ) (codes "1") (codes "error\t1\tnot a number")
unfolding name
refused =
    subst (λ n. IsReportLine Crate (nz ∷ []) (Some NZ) (codes "1") (tabbed (codes "error" ∷ n ∷ codes "not a number" ∷ [])))
    (decimal_digit 1 (omega arith))
    (Reports.refused NoNumber (IsUtf8-low (codes "1") refl)
    (subst (λ t. Reads (nz ∷ []) (Some NZ) t (Err NoNumber)) (sym (chars-low (codes "1") refl))
    (thin_reads (nz ∷ []) nz_is_thin (Some NZ) (codes "1") refl (Err NoNumber) (Thin.not_viable one_too_few))))

decimal_12 : decimal 12 ≡ codes "12"
decimal_12 = decimal_step 12 (omega arith) (omega arith) ∙ ap (λ t. t ++ 50 ∷ []) (decimal_digit 1 (omega arith))

id_nz : id_of (codes "NZ") ≡ Some NZ
unfolding name
id_nz = id_of-name NZ

-- 12 of New Zealand, by the hint
twelve : Reading
twelve = record { code = record { value = 64; source = Default }; national = record { zeros = 0; value = 12 }; extension = None; carrier = None }

twelve_viable : IsViable (codes "12")
twelve_viable = inl (record { two = refl; digits = refl })

twelve_code : code_by_hint nz (codes "12") ≡ record { source = Default; value = 64; rest = codes "12" }
twelve_code = code_by_hint-other nz (codes "12") (codes "64") 64 refl (sym decimal_64) (λ rest e. true≢false (sym (ap (begins (λ c. c == 54)) e)))

reads_twelve : Reads (nz ∷ []) (Some NZ) (codes "12") (Ok twelve)
unfolding twelve name
reads_twelve =
    subst (λ r. Reads (nz ∷ []) (Some NZ) (codes "12") r) (ap (thin_reading nz) twelve_code)
    (thin_reads (nz ∷ []) nz_is_thin (Some NZ) (codes "12") refl _ (Thin.by_hint nz twelve_viable refl))

-- every number of 64 is of New Zealand
home_nz : (digits : List ℕ) → home (nz ∷ []) 64 digits ≡ Some nz
unfolding name
home_nz digits = rw id_nz

kind_of_twelve : kind_of_number (nz ∷ []) twelve ≡ Unknown
unfolding twelve name
kind_of_twelve = ap (λ o. option_map_or (λ (m : Metadata). type_of m (decimal 12)) o Unknown) (home_nz (decimal 12)) ∙ rw decimal_12

region_of_twelve : region_of_number (nz ∷ []) twelve ≡ Some NZ
unfolding twelve name
region_of_twelve = ap (λ o. option_and_then (λ (m : Metadata). option_and_then id_of m.id) o) (home_nz (decimal 12)) ∙ id_nz

twelve_invalid : is_valid (nz ∷ []) twelve ≡ false
unfolding twelve name
twelve_invalid = ap (λ o. option_map_or (λ (m : Metadata). is_known (type_of m (decimal 12))) o false) (home_nz (decimal 12)) ∙ rw decimal_12

-- the line of a number by its fields
abbrev line_with : (e i n r : List ℕ) → «Type» → Option Id → Bool → List ℕ
line_with e i n r k region valid =
    tabbed (codes "ok" ∷ e ∷ i ∷ n ∷ r ∷ codes "default" ∷ kind_word k ∷ region_word region ∷ validity_word valid ∷ [])

e164 : text_by nz E164 None twelve ≡ codes "+6412"
unfolding twelve name
e164 = rw (decimal_64, decimal_12)

international : text_by nz International None twelve ≡ codes "+64 12"
unfolding twelve name
international = rw (decimal_64, decimal_12)

national : text_by nz National None twelve ≡ codes "12"
unfolding twelve name
national = rw decimal_12

rfc3966 : text_by nz Rfc3966 None twelve ≡ codes "tel:+64-12"
unfolding twelve name
rfc3966 = rw (decimal_64, decimal_12, chars-low (codes "12") refl, encode_utf8_all-digits (codes "12") refl)

line_of_twelve : number_line Crate (nz ∷ []) nz twelve ≡ codes "ok\t+6412\t+64 12\t12\ttel:+64-12\tdefault\tUnknown\tNZ\tinvalid"
unfolding twelve name
line_of_twelve =
    let k = kind_of_number (nz ∷ []) twelve in
    let o = region_of_number (nz ∷ []) twelve in
    let v = is_valid (nz ∷ []) twelve in
    let i = text_by nz International None twelve in
    let n = text_by nz National None twelve in
    let r = text_by nz Rfc3966 None twelve in
    ap (λ x. line_with x i n r k o v) e164
    ∙ ap (λ x. line_with (codes "+6412") x n r k o v) international
    ∙ ap (λ x. line_with (codes "+6412") (codes "+64 12") x r k o v) national
    ∙ ap (λ x. line_with (codes "+6412") (codes "+64 12") (codes "12") x k o v) rfc3966
    ∙ ap (λ x. line_with (codes "+6412") (codes "+64 12") (codes "12") (codes "tel:+64-12") x o v) kind_of_twelve
    ∙ ap (λ x. line_with (codes "+6412") (codes "+64 12") (codes "12") (codes "tel:+64-12") Unknown x v) region_of_twelve
    ∙ ap (λ x. line_with (codes "+6412") (codes "+64 12") (codes "12") (codes "tel:+64-12") Unknown (Some NZ) x) twelve_invalid

pub read : IsReportLine Crate (nz ∷ []) (Some NZ) (codes "12") (codes "ok\t+6412\t+64 12\t12\ttel:+64-12\tdefault\tUnknown\tNZ\tinvalid")
unfolding twelve name
read =
    subst (λ l. IsReportLine Crate (nz ∷ []) (Some NZ) (codes "12") l) line_of_twelve
    (Reports.read twelve nz (IsUtf8-low (codes "12") refl) (subst (λ t. Reads (nz ∷ []) (Some NZ) t (Ok twelve)) (sym (chars-low (codes "12") refl)) reads_twelve) refl)
