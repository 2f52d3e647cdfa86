-- The texts of a number by how it is laid out, abroad and at home.
use Rattle.std.proofs.Common.{◌≡◌, ℕ, List, [], ◌∷◌, ◌++◌, Option, None, Some}
use Rattle.std.proofs.Common.{chars, codes, encode_utf8_all}
use Rattle.std.proofs.Common.{refl, ap, ap₂, ◌∙◌}
use Rattle.std.specs.Fmt.{decimal}
use Rattle.phone_values.specs.Numbers.{text_of}
use Rattle.phone_values.specs.declared.mode.Mode.{Mode}
use Rattle.phone_values.specs.declared.mode.Mode.TheVariants.{International, National, Rfc3966}
use Rattle.phone_values.specs.declared.reading.Reading.{Reading}
use Rattle.phone_records.specs.declared.loader.Format.{Format}
use Rattle.phone_records.specs.declared.loader.Metadata.{Metadata}
use Rattle.phone_values.specs.declared.rules.Rules.{Rules}
use Rattle.phone_print.specs.Layouts.{laid, layout_by}
use Rattle.phone_print.specs.Tabbed.{tabbed, texts_by_rules, texts_laid}
use Rattle.phone_print.specs.Texts.{e164_text, extension_parameter, hyphenated, international_by, laid_out_by, national_by}

-- what is laid out by a number's layout is the number laid out
pub laid-laid_out : (rules : Rules) (m : Metadata) (mode : Mode) (own o : Option Format) (n : Reading) (digits text : List ℕ) → digits ≡ text_of n.national →
    o ≡ layout_by rules m mode own digits → text ≡ laid o m mode n.carrier digits → text ≡ laid_out_by rules m mode own n
laid-laid_out rules m mode own o n digits text d l t =
    t ∙ ap₂ (λ (x : Option Format) (y : List ℕ). laid x m mode n.carrier y) (l ∙ ap (layout_by rules m mode own) d) d

-- the text of RFC 3966 has the layout of the international text
pub laid-rfc3966 : (o : Option Format) (m : Metadata) (carrier : Option (List ℕ)) (digits : List ℕ) →
    laid o m International carrier digits ≡ laid o m Rfc3966 carrier digits
laid-rfc3966 None m carrier digits = refl
laid-rfc3966 (Some f) m carrier digits = refl

-- the texts of a number that is laid out so are the printed ones
pub texts_laid-texts_by : (rules : Rules) (m : Metadata) (own : Option Format) (n : Reading) (digits abroad at_home : List ℕ) → digits ≡ text_of n.national →
    abroad ≡ laid_out_by rules m International own n → at_home ≡ laid_out_by rules m National own n →
    texts_laid m n (decimal n.code.value) digits abroad at_home ≡ texts_by_rules rules m own n
texts_laid-texts_by rules m own n digits abroad at_home d a h =
    let code = decimal n.code.value in
    let layout = layout_by rules m International own (text_of n.national) in
    ap (λ (x : List ℕ). texts_laid m n code x abroad at_home) d
    ∙ ap (λ (x : List ℕ). texts_laid m n code (text_of n.national) x at_home) a
    ∙ ap (λ (x : List ℕ). texts_laid m n code (text_of n.national) (laid_out_by rules m International own n) x) h
    ∙ ap (λ (x : List ℕ).
    tabbed (e164_text n ∷ international_by rules m own n ∷ national_by rules m own n ∷
    (codes "tel:+" ++ (code ++ 45 ∷ (encode_utf8_all (hyphenated (chars x)) ++ extension_parameter n.extension))) ∷ []))
    (laid-rfc3966 layout m n.carrier (text_of n.national))
