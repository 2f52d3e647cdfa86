use Rattle.std.proofs.Common.{◌≡◌, [], ◌∷◌, None, false, get_or}
use Rattle.std.specs.List.{list_any}
use Rattle.std.specs.Str.{bytes_eq}
use Rattle.phone_cli.specs.Operands.{named_files}
use Rattle.phone_cli.proofs.ReadLemmas.{named_more}
use Rattle.phone_cli.proofs.written.is_any_written.Goals.{in-Some+else-is_written, in_default}
use Rattle.phone_cli.proofs.written.is_any_written.Goals as goal

pub loop-name-preserved : goal.loop-name-preserved
loop-name-preserved g c =
    let one : list_any (bytes_eq c.args.written.name.now) (named_files
    (get_or c.args.names.now c.loop-name.name-index None ∷ [])) ≡ false = elim
    c.match-name.branch [
      | in-Some+else-is_written w ↦
          rw (w.in-Some.is, w.is_written.ensures w.if-is_written.false)
      | in_default w ↦ rw w.in_default.is
    ] in
    named_more (bytes_eq c.args.written.name.now) c.args.names.now c.loop-name.name-index None
    c.loop-name-test.true c.loop-name.invariant one
