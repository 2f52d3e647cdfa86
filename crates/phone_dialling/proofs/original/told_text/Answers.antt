use Rattle.std.proofs.Common.{◌≡◌, ℕ, List, Some, IfOk, string_bytes, rules, sym, subst, ◌∙◌}
use Rattle.phone_values.specs.declared.country.Source.{Source}
use Rattle.phone_values.specs.declared.country.Source.TheVariants.{Default, Idd, Number, Plus}
use Rattle.phone_values.specs.declared.mode.Mode.TheVariants.{International}
use Rattle.phone_dialling.specs.Abroad.{dialled_text}
use Rattle.phone_dialling.specs.Original
use Rattle.phone_dialling.specs.Original.{IsToldText}
use Rattle.phone_dialling.specs.Texts.{signless, text_in}
use Rattle.phone_dialling.proofs.Answered.{told_so}
use Rattle.phone_dialling.proofs.Originals.{hint_so}
use Rattle.phone_dialling.proofs.original.told_text.Goals as goal

pub returns-in-Plus : goal.returns-in-Plus
returns-in-Plus c =
    let n = c.args.number.now in
    let source : c.source.result ≡ n.code.source = search rules in
    let Told = λ (s : Source) (t : List ℕ). IsToldText c.args.database.now c.args.from c.args.raw.now n c.args.m.now c.args.layout.now s t in
    told_so string_bytes (Told n.code.source) _ c.text_in.result (subst (λ s. Told s (text_in c.args.database.now International (Some c.args.raw.now) n)) (sym c.in-Plus.is ∙ source) Original.plus) c.text_in.ensures

pub returns-in-Idd : goal.returns-in-Idd
returns-in-Idd c =
    let n = c.args.number.now in
    let source : c.source.result ≡ n.code.source = search rules in
    let Told = λ (s : Source) (t : List ℕ). IsToldText c.args.database.now c.args.from c.args.raw.now n c.args.m.now c.args.layout.now s t in
    told_so string_bytes (Told n.code.source) _ c.dialled_text.result (subst (λ s. Told s (dialled_text c.args.database.now c.args.from (Some c.args.raw.now) n)) (sym c.in-Idd.is ∙ source) Original.idd) c.dialled_text.ensures

pub returns-in-Number : goal.returns-in-Number
returns-in-Number c =
    let n = c.args.number.now in
    let source : c.source.result ≡ n.code.source = search rules in
    let Told = λ (s : Source) (t : List ℕ). IsToldText c.args.database.now c.args.from c.args.raw.now n c.args.m.now c.args.layout.now s t in
    told_so string_bytes (Told n.code.source) _ c.number_text.result (subst (λ s. Told s (signless (text_in c.args.database.now International (Some c.args.raw.now) n))) (sym c.in-Number.is ∙ source) Original.number) c.number_text.ensures

pub returns-in-Default : goal.returns-in-Default
returns-in-Default c =
    let n = c.args.number.now in
    let source : c.source.result ≡ n.code.source = search rules in
    let Told = λ (s : Source) (t : List ℕ). IsToldText c.args.database.now c.args.from c.args.raw.now n c.args.m.now c.args.layout.now s t in
    subst (λ s. IfOk c.default_text.result (λ t. Told s (string_bytes t))) (sym c.in-Default.is ∙ source)
    (hint_so string_bytes c.args.database.now c.args.from c.args.raw.now n c.args.m.now c.args.layout.now c.default_text.result c.default_text.ensures)
