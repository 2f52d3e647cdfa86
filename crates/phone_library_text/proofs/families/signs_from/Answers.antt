use Rattle.std.proofs.Common.{ap, sym, rules}
use Rattle.std.specs.Str.{chars}
use Rattle.ucd_case.proofs.Computing.{ucd_case}
use Rattle.phone_library_text.specs.Announcements.{signs}
use Rattle.phone_library_text.specs.Scans.{begun_by}
use Rattle.phone_library_text.proofs.Beginnings.{no_sign_begun}
use Rattle.phone_library_text.proofs.families.signs_from.Goals as goal

pub returns-in-x : goal.returns-in-x
unfolding chars ucd_case
returns-in-x c = ap (λ f. begun_by f signs) (sym c.in-x.is)

pub returns-in-65368 : goal.returns-in-65368
unfolding chars ucd_case
returns-in-65368 c = ap (λ f. begun_by f signs) (sym c.in-65368.is)

pub returns-in-35 : goal.returns-in-35
unfolding chars ucd_case
returns-in-35 c = ap (λ f. begun_by f signs) (sym c.in-35.is)

pub returns-in-65283 : goal.returns-in-65283
unfolding chars ucd_case
returns-in-65283 c = ap (λ f. begun_by f signs) (sym c.in-65283.is)

pub returns-in-126 : goal.returns-in-126
unfolding chars ucd_case
returns-in-126 c = ap (λ f. begun_by f signs) (sym c.in-126.is)

pub returns-in-65374 : goal.returns-in-65374
unfolding chars ucd_case
returns-in-65374 c = ap (λ f. begun_by f signs) (sym c.in-65374.is)

pub returns-in-i : goal.returns-in-i
unfolding chars ucd_case
returns-in-i c = ap (λ f. begun_by f signs) (sym c.in-i.is)

pub returns-in-65353 : goal.returns-in-65353
unfolding chars ucd_case
returns-in-65353 c = ap (λ f. begun_by f signs) (sym c.in-65353.is)

pub returns-in_default : goal.returns-in_default
returns-in_default c = sym (no_sign_begun c.args.folding (search rules))
