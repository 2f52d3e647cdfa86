use Rattle.std.proofs.Common.{ap}
use Rattle.std.specs.Prelude.{option_map, string_bytes}
use Rattle.phone_cli.proofs.WriteLemmas.{writes_broken, writes_unflushed}
use Rattle.phone_cli.proofs.about.write_version.Goals as goal

pub returns-in_err-write_lines-clause-written : goal.returns-in_err-write_lines-clause-written
returns-in_err-write_lines-clause-written g c = (
  option_map string_bytes c.version_of-version.result,
  λ none. ap (option_map string_bytes) (c.version_of-version.ensures none),
  writes_broken _ _ _ _ _ _ c.from_residual.ensures.0 c.in_err-write_lines.ensures,
)

pub returns-clause-written : goal.returns-clause-written
returns-clause-written g c = (
  option_map string_bytes c.version_of-version.result,
  λ none. ap (option_map string_bytes) (c.version_of-version.ensures none),
  writes_unflushed _ _ _ _ _ _ _ _ c.in_ok-write_lines.ensures c.flush.ensures.kept
      c.flush.ensures.no_fault c.flush.ensures.fault,
)
