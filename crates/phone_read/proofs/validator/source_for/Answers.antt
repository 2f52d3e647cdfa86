use Rattle.phone_read.specs.Regions.{region_of}
use Rattle.phone_read.proofs.Regional.{region_told}
use Rattle.phone_read.proofs.validator.source_for.Goals as goal

pub returns-in-Some : goal.returns-in-Some
returns-in-Some c = region_told c.args.db.now (region_of c.args.db.now c.args.code c.args.text.now) _ _ c.in_ok-origin.ensures.origin c.in-Some.is

pub returns-in-None : goal.returns-in-None
returns-in-None c = region_told c.args.db.now (region_of c.args.db.now c.args.code c.args.text.now) _ _ c.in_ok-origin.ensures.origin c.in-None.is
