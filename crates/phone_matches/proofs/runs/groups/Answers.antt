use Rattle.std.proofs.Common.{rules, ◌≡◌, [], ◌∷◌, ◌++◌, chars, ap, sym, ◌∙◌, append_assoc, append-nil}
use Rattle.phone_matches.proofs.Grouped.{told_push}
use Rattle.phone_matches.specs.Runs.{groups, told}
use Rattle.phone_matches.proofs.runs.groups.Goals as goal

pub loop-group-preserved : goal.loop-group-preserved
loop-group-preserved g c =
    let p = g.S.CharSet.members c.args.set.now in
    let done = c.loop-group.all.items in
    let group = c.in-Some.group in
    let rest = groups p (chars c.in-Some.after.now) in (
      search rules,
      c.loop-group.invariant.1 ∙ ap (λ gs. told done ++ gs) c.in-Some.ensures.read ∙ sym (append_assoc (told done) (group.now ∷ []) rest)
          ∙ ap (λ gs. gs ++ rest) (sym (told_push done _ group c.in_ok-push.ensures.items)),
    )

pub returns : goal.returns
returns g c =
    sym (c.loop-group.invariant.1 ∙ ap (λ gs. told c.loop-group.all.items ++ gs) c.in_default.ensures.read ∙ append-nil (told c.loop-group.all.items))
