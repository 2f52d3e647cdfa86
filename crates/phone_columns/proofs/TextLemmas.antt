-- Texts in all modes.
use Rattle.std.proofs.Common.{◌≡◌, List, [], ◌∷◌, None, option_map, unwrap_or, refl, sym, ap, ap₂, subst}
use Rattle.phone_columns.specs.Columns.{buffers_of}
use Rattle.phone_columns.specs.Texts.{AreTexts, AreTextsInModes}
use Rattle.phone_columns.specs.declared.answers.Answer.{Answer}
use Rattle.phone_columns.specs.declared.column.Column.TheVariants.{Text}
use Rattle.phone_columns.specs.declared.printed.Printed.{Printed}
use Rattle.phone_columns.specs.declared.texts.InModes.{InModes}
use Rattle.phone_engine.specs.Facts.{printed_as}
use Rattle.phone_plans.specs.CodeLookUps.{first_of, territories}
use Rattle.phone_print.specs.Texts.{text_by_rules}
use Rattle.phone_records.specs.declared.loader.Metadata.{Metadata}
use Rattle.phone_values.specs.declared.mode.Mode.{Mode}
use Rattle.phone_values.specs.declared.mode.Mode.TheVariants.{E164, International, National, Rfc3966}
use Rattle.phone_values.specs.declared.reading.Reading.{Reading}
use Rattle.phone_values.specs.declared.rules.Rules.{Rules}
use Rattle.phone_values.specs.declared.rules.Rules.TheVariants.{Crate, Library}
use Rattle.phone_library.specs.Printed.{printed_by}

-- a number whose code isn't listed has no text
pub unprinted : (rules : Rules) (db : List Metadata) (mode : Mode) (n : Reading) → first_of (territories n.code.value db) ≡ None →
    unwrap_or (printed_by rules db mode (printed_as rules n)) [] ≡ []
unprinted Library db mode n e = ap (λ o. unwrap_or (option_map (λ (m : Metadata). text_by_rules Library m mode None (printed_as Library n)) o) []) e
unprinted Crate db mode n e = ap (λ o. unwrap_or (option_map (λ (m : Metadata). text_by_rules Crate m mode None (printed_as Crate n)) o) []) e

buffers : (rules : Rules) (db : List Metadata) (mode : Mode) (answers : List Answer) (all printed : Printed) → printed ≡ all →
    AreTexts rules db mode answers all →
    printed.offsets.items ∷ printed.texts.items ∷ [] ≡ buffers_of rules db (Text mode) answers
buffers rules db mode answers all printed is are =
    let own = subst (λ (p : Printed). AreTexts rules db mode answers p) (sym is) are in
    ap₂ (λ x y. x ∷ y ∷ []) own.offsets own.texts

-- the texts in a mode are the buffers of its column
pub in_mode : (rules : Rules) (db : List Metadata) (mode : Mode) (answers : List Answer) (all : InModes) (printed : Printed) →
    AreTextsInModes rules db answers all → (mode ≡ E164 → printed ≡ all.e164) → (mode ≡ International → printed ≡ all.international) →
    (mode ≡ National → printed ≡ all.national) → (mode ≡ Rfc3966 → printed ≡ all.rfc3966) →
    printed.offsets.items ∷ printed.texts.items ∷ [] ≡ buffers_of rules db (Text mode) answers
in_mode rules db E164 answers all printed are e i n r = buffers rules db E164 answers all.e164 printed (e refl) are.e164
in_mode rules db International answers all printed are e i n r =
    buffers rules db International answers all.international printed (i refl) are.international
in_mode rules db National answers all printed are e i n r = buffers rules db National answers all.national printed (n refl) are.national
in_mode rules db Rfc3966 answers all printed are e i n r = buffers rules db Rfc3966 answers all.rfc3966 printed (r refl) are.rfc3966
