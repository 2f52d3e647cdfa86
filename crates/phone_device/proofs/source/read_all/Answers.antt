use Rattle.phone_device.specs.Passing.{PassesSome}
use Rattle.phone_device.proofs.PassingLemmas.{Passes-then, on_err}
use Rattle.phone_device.proofs.source.read_all.Goals as goal

pub returns-in_err-extend_from_slice-clause-lost : goal.returns-in_err-extend_from_slice-clause-lost
returns-in_err-extend_from_slice-clause-lost g c =
    let some : PassesSome (g.S.ByteSource.to_come c.args.source.now) (g.S.ByteSource.to_come c.fill.new.source) =
    (_, Passes-then _ _ _ _ _ c.blocks-2.invariant.passed c.in_ok-fill.ensures.passes) in
    on_err _ _ some
