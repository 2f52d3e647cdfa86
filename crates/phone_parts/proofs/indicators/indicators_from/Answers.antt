use Rattle.std.proofs.Common.{◌∙◌, ap, sym, rules}
use Rattle.std.specs.Str.{chars}
use Rattle.ucd_case.proofs.Computing.{ucd_case}
use Rattle.ucd_case.specs.CaseFolding.{simple_fold}
use Rattle.phone_chars.specs.Characters.{is_one_of}
use Rattle.phone_parts.proofs.FirstLetters.{from_this, none_from}
use Rattle.phone_parts.proofs.Openings.{openings}
use Rattle.phone_parts.proofs.indicators.indicators_from.Goals as goal

pub returns-in-x : goal.returns-in-x
unfolding chars ucd_case
returns-in-x c = from_this c.args.c 120 (sym c.simple_fold.ensures ∙ c.in-x.is)

pub returns-in-e : goal.returns-in-e
unfolding chars ucd_case
returns-in-e c = from_this c.args.c 101 (sym c.simple_fold.ensures ∙ c.in-e.is)

pub returns-in-i : goal.returns-in-i
unfolding chars ucd_case
returns-in-i c = from_this c.args.c 105 (sym c.simple_fold.ensures ∙ c.in-i.is)

pub returns-in-a : goal.returns-in-a
unfolding chars ucd_case
returns-in-a c = from_this c.args.c 97 (sym c.simple_fold.ensures ∙ c.in-a.is)

pub returns-in-65368 : goal.returns-in-65368
unfolding chars ucd_case
returns-in-65368 c = from_this c.args.c 65368 (sym c.simple_fold.ensures ∙ c.in-65368.is)

pub returns-in-65349 : goal.returns-in-65349
unfolding chars ucd_case
returns-in-65349 c = from_this c.args.c 65349 (sym c.simple_fold.ensures ∙ c.in-65349.is)

pub returns-in-65353 : goal.returns-in-65353
unfolding chars ucd_case
returns-in-65353 c = from_this c.args.c 65353 (sym c.simple_fold.ensures ∙ c.in-65353.is)

pub returns-in-44 : goal.returns-in-44
unfolding chars ucd_case
returns-in-44 c = from_this c.args.c 44 (sym c.simple_fold.ensures ∙ c.in-44.is)

pub returns-in-59 : goal.returns-in-59
unfolding chars ucd_case
returns-in-59 c = from_this c.args.c 59 (sym c.simple_fold.ensures ∙ c.in-59.is)

pub returns-in-35 : goal.returns-in-35
unfolding chars ucd_case
returns-in-35 c = from_this c.args.c 35 (sym c.simple_fold.ensures ∙ c.in-35.is)

pub returns-in-65283 : goal.returns-in-65283
unfolding chars ucd_case
returns-in-65283 c = from_this c.args.c 65283 (sym c.simple_fold.ensures ∙ c.in-65283.is)

pub returns-in-126 : goal.returns-in-126
unfolding chars ucd_case
returns-in-126 c = from_this c.args.c 126 (sym c.simple_fold.ensures ∙ c.in-126.is)

pub returns-in-65374 : goal.returns-in-65374
unfolding chars ucd_case
returns-in-65374 c = from_this c.args.c 65374 (sym c.simple_fold.ensures ∙ c.in-65374.is)

pub returns-in_default : goal.returns-in_default
returns-in_default c = sym (none_from (simple_fold c.args.c) (ap (is_one_of openings) (sym c.simple_fold.ensures) ∙ search rules))
