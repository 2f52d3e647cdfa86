use Rattle.std.proofs.Common.{◌∙◌}
use Rattle.regex_hir.specs.Meaning.{meaning}
use Rattle.phone_automaton.proofs.Bridge.{IfSome-weaker}
use Rattle.phone_automaton.proofs.Joining.{TellsAccept-grows}
use Rattle.phone_automaton.proofs.Telling.{tells_of}
use Rattle.phone_automaton.proofs.digits.Digits.new.Goals as goal

pub returns : goal.returns
returns c =
    let old = c.in_ok-rows.rows in
    let new = c.row_of.new.rows in
    let made = c.in_ok-row.ensures in
    let begun = c.in_ok-rows.ensures in
    let accepts = TellsAccept-grows old new 11 begun.known.rows made.grows begun.place begun.accepts
    in
    IfSome-weaker _ _
    (λ d told hay digits. told hay digits
    ∙ tells_of (meaning c.args.hir.now) new c.in_ok-row.row 11 made.gives accepts hay digits)
    c.from_rows.result c.from_rows.ensures
