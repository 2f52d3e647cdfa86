use Rattle.std.proofs.Common.{◌≡◌, ℕ, List, Some, string_bytes, ap, ◌∙◌}
use Rattle.phone_values.specs.declared.mode.Mode.TheVariants.{National}
use Rattle.phone_values.specs.declared.reading.Reading.{Reading}
use Rattle.phone_values.specs.declared.rules.Rules.TheVariants.{Library}
use Rattle.phone_print.specs.Texts.{text_by_rules}
use Rattle.phone_dialling.specs.Texts.{plain_text}
use Rattle.phone_dialling.proofs.Answered.{told_so}
use Rattle.phone_dialling.proofs.LaidTexts.{laid-plain}
use Rattle.phone_dialling.proofs.texts.plain_laid.Goals as goal

pub returns : goal.returns
returns c =
    let db = c.args.database.now in
    let m = c.args.m.now in
    let f = c.args.layout.now in
    let n = c.args.number.now in
    let same = ap (λ (k : Reading). text_by_rules Library m National (Some f) k) c.printable.ensures in
    told_so string_bytes (λ (t : List ℕ). t ≡ plain_text db National n) (text_by_rules Library m National (Some f) c.printable.result) c.text_by.result
    (same ∙ laid-plain db m f n c.requires.territory c.requires.layout) c.text_by.ensures
