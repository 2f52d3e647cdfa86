use Rattle.std.proofs.Common.{◌≡◌, ◌∷◌, [], refl, true, false, ap, sym, ◌∙◌, true≢false}
use Rattle.std.specs.Str.{chars}
use Rattle.std.specs.List.{list_all}
use Rattle.phone_parts.specs.Tel
use Rattle.phone_parts.specs.Texts.{begins}
use Rattle.phone_parts.proofs.Runs.{all_in_front, none_after_front, run_whole, run_begins}
use Rattle.phone_parts.proofs.Slices.{end_of_end}
use Rattle.phone_parts.proofs.Tels.{plus_run, not_visual}
use Rattle.phone_parts.proofs.rfc3966.signed_run.Goals as goal

pub returns-in_default-clause-read : goal.returns-in_default-clause-read
returns-in_default-clause-read c = ([], refl, Tel.unsigned c.in_default.ensures.read)

pub returns-then-is_nothing-clause-read : goal.returns-then-is_nothing-clause-read
returns-then-is_nothing-clause-read c = λ signs rest run e h.
    let found = plus_run (chars c.args.text.now) (chars c.in-Some.signed.now) signs rest run c.in-Some.ensures.read e h in
    true≢false (sym found.some ∙ ap (begins not_visual) (sym c.split_run.ensures.front ∙ c.is_nothing.ensures.nothing c.if-is_nothing.true))

pub returns-clause-read : goal.returns-clause-read
returns-clause-read c =
    let r = c.split_run.ensures in
    let signed = chars c.in-Some.signed.now in
    let run = chars c.split_run.result.0.now in
    let rest = chars c.split_run.result.1.now in
    let some : ¬ (run ≡ []) = c.is_nothing.ensures.something c.if-is_nothing.false in
    let all : list_all not_visual run ≡ true = rw r.front (all_in_front not_visual signed) in
    let none : begins not_visual rest ≡ false = rw r.rest (none_after_front not_visual signed) in
    (43 ∷ run, c.in-Some.ensures.read ∙ ap (λ t. 43 ∷ t) (run_whole not_visual signed run rest r.front r.rest), Tel.signed run (run_begins not_visual run all some) all none)

pub returns-clause-end : goal.returns-clause-end
returns-clause-end c = end_of_end _ _ _ c.in-Some.ensures.end (c.split_run.result.0.now, c.split_run.ensures.whole)
