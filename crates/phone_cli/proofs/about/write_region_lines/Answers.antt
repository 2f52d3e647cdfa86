use Rattle.phone_values.specs.declared.country.Id.{Id}
use Rattle.phone_words.specs.Rows.{Lent}
use Rattle.phone_cli.specs.Abouts.{region_line}
use Rattle.phone_cli.proofs.WriteLemmas.{broken_at, writes_broken}
use Rattle.phone_cli.proofs.about.write_region_lines.Goals as goal

pub returns-in_err-write_region_line : goal.returns-in_err-write_region_line
returns-in_err-write_region_line g c = writes_broken _ _ _ _ _ _ c.from_residual.ensures.0
    (broken_at (λ (r : Id × Lent). region_line r.0 r.1.now) c.args.regions.now
    c.loop-id.id-index _ _ _ _ _ _ _
    c.loop-id-test.true c.loop-id.invariant c.in_err-write_region_line.ensures)
