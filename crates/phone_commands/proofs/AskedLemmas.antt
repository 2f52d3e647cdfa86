-- Inputs that are asked for the mark of UTF-16.
use Rattle.std.proofs.Common.{◌≡◌, Bool, false, true, Result}
use Rattle.std.specs.Prelude.{⊤}
use Rattle.phone_commands.specs.EncodedJobs.{ActsUnmarked, Asked}
use Rattle.phone_commands.specs.Jobs.{Acts}
use Rattle.phone_commands.specs.declared.jobs.JobError.{JobError}
use Rattle.phone_lines.specs.Ends.{Devices}

pub asked : {Kept : Type 0} (asks : Bool) (acts : Acts Kept) (first : Kept)
    (before after : Devices) (last : Kept) (end : Result ⊤ JobError) → asks ≡ true →
    ActsUnmarked acts first before after last end → Asked asks acts first before after last end
asked true acts first before after last end e act = act
asked false acts first before after last end e act = absurd (cc)
