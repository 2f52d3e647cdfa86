-- The national text of a number by a layout that was found before.
use Rattle.std.proofs.Common.{◌≡◌, ◌++◌, List, Option, None, Some, option_map, unwrap_or, ap, sym, ◌∙◌}
use Rattle.phone_values.specs.Numbers.{text_of}
use Rattle.phone_values.specs.declared.mode.Mode.TheVariants.{National}
use Rattle.phone_values.specs.declared.reading.Reading.{Reading}
use Rattle.phone_values.specs.declared.rules.Rules.TheVariants.{Library}
use Rattle.phone_plans.specs.CodeLookUps.{first_of, territories}
use Rattle.phone_print.specs.Layouts.{laid}
use Rattle.phone_print.specs.Texts.{extension_part, text_by_rules}
use Rattle.phone_records.specs.declared.loader.Format.{Format}
use Rattle.phone_records.specs.declared.loader.Metadata.{Metadata}
use Rattle.phone_dialling.specs.Original.{layout_in}
use Rattle.phone_dialling.specs.Texts.{plain_text}

-- the territory's own layout, handed in, gives the text that the territory gives
pub laid-plain : (db : List Metadata) (m : Metadata) (f : Format) (n : Reading) → first_of (territories n.code.value db) ≡ Some m →
    layout_in m (text_of n.national) ≡ Some f → text_by_rules Library m National (Some f) n ≡ plain_text db National n
laid-plain db m f n found layout = sym
    (ap (λ (o : Option Metadata). unwrap_or (option_map (λ m. text_by_rules Library m National None n) o) (text_of n.national)) found
    ∙ ap (λ (o : Option Format). laid o m National n.carrier (text_of n.national) ++ extension_part m n.extension) layout)
