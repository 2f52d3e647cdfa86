use Rattle.std.proofs.Common.{rules, arith, ◌≡◌, ◌==◌, [], IsUtf8, chars, length, eqb-true, ap, sym, ◌∙◌, true≢false}
use Rattle.std.proofs.lemmas.List.{nil_from_length}
use Rattle.std.proofs.lemmas.Str.{chars-nil}
use Rattle.phone_matches.proofs.Grouped.{begins_where, bytes_of_chars, group_shorter, no_chars, no_group, some_group}
use Rattle.phone_matches.proofs.runs.next_group.Goals as goal

pub returns-then-is_empty-clause-read : goal.returns-then-is_empty-clause-read
returns-then-is_empty-clause-read g c =
    let p = g.S.CharSet.members c.args.set.now in
    let nothing = nil_from_length _ (eqb-true _ _ (sym c.is_empty.ensures ∙ c.if-is_empty.true)) in
    no_group p (chars c.from_member-from.result.now) (chars c.args.text.now) c.from_member-from.ensures.read (ap chars nothing ∙ chars-nil)

pub returns-clause-read : goal.returns-clause-read
returns-clause-read g c =
    let p = g.S.CharSet.members c.args.set.now in
    let from = c.from_member-from.result.now in
    let text = chars c.args.text.now in
    let begins =
    begins_where p (chars from) text c.from_member-from.ensures.read
    (λ e. true≢false (sym (c.is_empty.ensures ∙ ap (λ t. length t == 0) (no_chars from c.from_member-from.utf8 e)) ∙ c.if-is_empty.false)) in
    let u : IsUtf8 c.split_run.result.0.now = search rules in
    some_group p (chars from) text (chars c.split_run.result.1.now) c.as_bytes.result.now c.from_member-from.ensures.read begins
    (c.as_bytes.ensures.value ∙ bytes_of_chars c.split_run.result.0.now _ u c.split_run.ensures.front) c.split_run.ensures.rest

pub returns-clause-shorter : goal.returns-clause-shorter
returns-clause-shorter g c =
    let p = g.S.CharSet.members c.args.set.now in
    let from = c.from_member-from.result.now in
    let begins =
    begins_where p (chars from) (chars c.args.text.now) c.from_member-from.ensures.read
    (λ e. true≢false (sym (c.is_empty.ensures ∙ ap (λ t. length t == 0) (no_chars from c.from_member-from.utf8 e)) ∙ c.if-is_empty.false)) in
    let l = group_shorter p from c.split_run.result.0.now c.split_run.result.1.now c.split_run.ensures.whole c.split_run.ensures.front begins in
    let m = c.from_member-from.ensures.shorter in
    omega (arith, l, m)
