use Rattle.std.proofs.Common.{◌++◌, ap, sym, ◌∙◌, arith}
use Rattle.std.proofs.lemmas.Str.{chars-append}
use Rattle.std.specs.Str.{chars}
use Rattle.phone_chars.proofs.Runs.{front_of_end, gets_front}
use Rattle.phone_chars.proofs.cuts.before.Goals as goal

is_before : goal.returns-clause-before
is_before c v whole = ap (λ r. r.now) c.unwrap_or.ensures
    ∙ front_of_end c.args.text c.args.rest.now v c.saturating_sub.result (omega (arith, c.saturating_sub.ensures)) whole c.utf8.text c.utf8.rest c.get.result c.get.ensures.cases

is_cut : goal.returns-clause-cut
is_cut c end = end.1 ∙ ap (λ v. v ++ c.args.rest.now) (sym (is_before c end.0 end.1))

pub returns-clause-before : goal.returns-clause-before
returns-clause-before = is_before

pub returns-clause-front : goal.returns-clause-front
returns-clause-front c = rw c.unwrap_or.ensures (gets_front c.args.text c.saturating_sub.result c.get.result c.get.ensures.cases)

pub returns-clause-cut : goal.returns-clause-cut
returns-clause-cut = is_cut

pub returns-clause-read : goal.returns-clause-read
returns-clause-read c end = ap chars (is_cut c end) ∙ chars-append _ _ c.unwrap_or.utf8
