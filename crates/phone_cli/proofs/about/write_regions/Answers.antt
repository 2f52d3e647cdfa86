use Rattle.std.proofs.Common.{refl}
use Rattle.phone_cli.specs.Abouts.{regions_text}
use Rattle.phone_cli.proofs.WriteLemmas.{writes_broken, writes_unflushed}
use Rattle.phone_cli.proofs.about.write_regions.Goals as goal

pub returns-in_err-write_region_lines-clause-written : goal.returns-in_err-write_region_lines-clause-written
unfolding regions_text
returns-in_err-write_region_lines-clause-written g c =
    writes_broken _ _ _ _ _ _ c.from_residual.ensures.0 c.in_err-write_region_lines.ensures

pub returns-clause-written : goal.returns-clause-written
unfolding regions_text
returns-clause-written g c =
    writes_unflushed _ _ _ _ _ _ _ _ c.in_ok-write_region_lines.ensures c.flush.ensures.kept
    c.flush.ensures.no_fault c.flush.ensures.fault

pub returns-in_err-write_region_lines-clause-all : goal.returns-in_err-write_region_lines-clause-all
returns-in_err-write_region_lines-clause-all g c = refl

pub returns-clause-all : goal.returns-clause-all
returns-clause-all g c = refl
