use Rattle.std.proofs.Common.{take, drop, ◌+◌, sym, subst}
use Rattle.std.proofs.lemmas.List.{take_rest}
use Rattle.std.specs.Str.{IsUtf8}
use Rattle.phone_prefixes.specs.Refusals.IsNoEntry.{no_prefix, no_tab, not_utf8}
use Rattle.phone_prefixes.proofs.Parted.{empty_line, is_nil, is_some, parted}
use Rattle.phone_prefixes.proofs.lines.tab_of.Goals as goal

pub returns-then-is_empty-clause-parted : goal.returns-then-is_empty-clause-parted
returns-then-is_empty-clause-parted c = empty_line c.args.line.now (is_nil _ (sym c.if-is_empty.ensures))

pub returns-in_default-clause-parted : goal.returns-in_default-clause-parted
returns-in_default-clause-parted c = no_tab c.args.line.now (is_some _ (sym c.if-is_empty.ensures)) c.in_default.ensures.none

pub returns-then-not-is_prefix-clause-parted : goal.returns-then-not-is_prefix-clause-parted
returns-then-not-is_prefix-clause-parted c =
    let line = c.args.line.now in
    let tab = c.in-Some.tab in
    no_prefix line (take tab line) (drop (tab + 1) line) (parted line tab c.in-Some.ensures.inside c.in-Some.ensures.found c.in-Some.ensures.first) (sym c.if-not-is_prefix.ensures)

pub returns-in-Err-clause-parted : goal.returns-in-Err-clause-parted
returns-in-Err-clause-parted c =
    let line = c.args.line.now in
    let tab = c.in-Some.tab in
    not_utf8 line (take tab line) (drop (tab + 1) line) (parted line tab c.in-Some.ensures.inside c.in-Some.ensures.found c.in-Some.ensures.first) (sym c.if-not-is_prefix.ensures) (λ h. c.in-Err.ensures.cases.0 (subst IsUtf8 (sym (take_rest line (tab + 1))) h))
