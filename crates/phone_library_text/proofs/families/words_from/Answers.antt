use Rattle.std.proofs.Common.{ap, sym, rules}
use Rattle.std.specs.Str.{chars}
use Rattle.ucd_case.proofs.Computing.{ucd_case}
use Rattle.phone_library_text.specs.Announcements.{words}
use Rattle.phone_library_text.specs.Scans.{begun_by}
use Rattle.phone_library_text.proofs.Beginnings.{no_word_begun}
use Rattle.phone_library_text.proofs.families.words_from.Goals as goal

pub returns-in-x : goal.returns-in-x
unfolding chars ucd_case
returns-in-x c = ap (λ f. begun_by f words) (sym c.in-x.is)

pub returns-in-e : goal.returns-in-e
unfolding chars ucd_case
returns-in-e c = ap (λ f. begun_by f words) (sym c.in-e.is)

pub returns-in-65368 : goal.returns-in-65368
unfolding chars ucd_case
returns-in-65368 c = ap (λ f. begun_by f words) (sym c.in-65368.is)

pub returns-in-65349 : goal.returns-in-65349
unfolding chars ucd_case
returns-in-65349 c = ap (λ f. begun_by f words) (sym c.in-65349.is)

pub returns-in-1076 : goal.returns-in-1076
unfolding chars ucd_case
returns-in-1076 c = ap (λ f. begun_by f words) (sym c.in-1076.is)

pub returns-in-a : goal.returns-in-a
unfolding chars ucd_case
returns-in-a c = ap (λ f. begun_by f words) (sym c.in-a.is)

pub returns-in_default : goal.returns-in_default
returns-in_default c = sym (no_word_begun c.args.folding (search rules))
