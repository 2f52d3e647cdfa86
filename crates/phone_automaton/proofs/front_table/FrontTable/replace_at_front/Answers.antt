use Rattle.std.proofs.Common.{◌≡◌, Some, subst, sym, ap, ◌∙◌}
use Rattle.regex_hir.specs.Find.{find_str}
use Rattle.regex_syntax.specs.Grammar.{Names}
use Rattle.phone_automaton.specs.Parts.{AreFrontCells, with_end}
use Rattle.phone_automaton.specs.Tables.{FrontCells}
use Rattle.phone_automaton.specs.Templates.{with_match_replaced}
use Rattle.phone_automaton.proofs.Bridge.{made_again, replaced_in, Parts}
use Rattle.phone_automaton.proofs.Telling.{first_by_end}
use Rattle.phone_automaton.proofs.front_table.FrontTable.replace_at_front.Goals as goal

pub returns : goal.returns
returns c re tells =
    let hay = c.args.hay.now in
    let end = c.args.end in
    let front = c.as_slice.result.now in
    let cells = with_end front end in
    let own : AreFrontCells re front = subst (AreFrontCells re) (sym (c.as_slice.ensures.value ∙ ap (λ (t : FrontCells). t.front) c.self.view_is)) tells.1 in
    let told = first_by_end re hay front end c.requires.digits own (sym (tells.0 hay c.requires.digits) ∙ c.requires.end) in
    made_again
    (λ text. Parts c.args.template.now hay cells (0, end) text)
    (λ text. (names : Names) → text ≡ with_match_replaced names c.args.template.now hay (find_str re hay 0))
    (λ text made names. replaced_in c.args.template.now hay cells text (find_str re hay 0) (Some (0, end)) told.0 told.1 made names)
    c.replace_in_digits.result c.replace_in_digits.ensures
