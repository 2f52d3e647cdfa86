use Rattle.std.proofs.Common.{◌<◌, All, IfSome, Option, None, Some}
use Rattle.phone_pattern.proofs.scans.take.Goals as goal

-- what holds anyway holds where something is there
if_there : {A : Type 0} (P : Type 0) (o : Option A) → P → IfSome o (λ _. P)
if_there P None h = tt
if_there P (Some x) h = h

pub returns-clause-ascii : goal.returns-clause-ascii
returns-clause-ascii c = if_there (All (λ x. x < 128) c.args.text.now) c.take.result (c.is_ascii.ensures c.if-not-is_ascii.false)
