use Rattle.std.proofs.Common.{◌++◌, ◌+◌, [], drop, get_or, take, ap, arith, sym, ◌∙◌}
use Rattle.std.proofs.lemmas.List.{drop_more, take-append-drop, take_more}
use Rattle.std.proofs.lemmas.List.{take_all}
use Rattle.phone_commands.specs.Inputs.{Name}
use Rattle.phone_commands.specs.Inputs.AreAnswered.{none, next}
use Rattle.phone_commands.specs.Inputs.InputsEnd.{failed, whole}
use Rattle.phone_commands.proofs.inputs.on_inputs.Goals as goal

abbrev nameless : Name
nameless = record { ref_ptr = (0, 0); now = [] }

pub loop-name-init : goal.loop-name-init
loop-name-init g c = none

pub loop-name-preserved : goal.loop-name-preserved
loop-name-preserved g c =
    let i = c.loop-name.name-index in
    let files = c.args.files.now in
    rw (take_more files i nameless c.loop-name-test.true)
    (next (take i files) _ _ (get_or files i nameless) _ _ c.loop-name.invariant c.in-Ok.ensures)

pub returns-in-Err-clause-files : goal.returns-in-Err-clause-files
returns-in-Err-clause-files g c some =
    let i = c.loop-name.name-index in
    let files = c.args.files.now in
    let name = get_or files i nameless in
    failed (take i files) (drop (i + 1) files) name _ _ c.in-Err.failure
    (sym (take-append-drop i files) ∙
    ap (λ names. take i files ++ names) (drop_more files i nameless c.loop-name-test.true))
    c.loop-name.invariant c.in-Err.ensures

pub returns-clause-files : goal.returns-clause-files
returns-clause-files g c some =
    let i = c.loop-name.name-index in
    let files = c.args.files.now in
    whole (rw (take_all i files (omega (arith, c.loop-name-test.false))) at c.loop-name.invariant)
