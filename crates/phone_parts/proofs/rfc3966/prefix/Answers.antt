use Rattle.std.proofs.Common.{IfSome, subst}
use Rattle.phone_parts.specs.Parts.{IsSlice}
use Rattle.phone_parts.proofs.Slices.{slice_of_slice, slice_from_end}
use Rattle.phone_parts.proofs.rfc3966.prefix.Goals as goal

pub returns-in-Some-clause-slice : goal.returns-in-Some-clause-slice
returns-in-Some-clause-slice c = λ text _ context.
    let e = c.in-Some.ensures.end in
    slice_of_slice text _ _ (subst (λ o. IfSome o (λ r. IsSlice text r.now)) c.in_ok-context.was context) (slice_from_end _ e.0 _ e.1)
