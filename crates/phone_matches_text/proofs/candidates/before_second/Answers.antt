use Rattle.std.proofs.Common.{rules, ◌≡◌, ℕ, suc, false, true, [], ◌∷◌, ◌++◌, chars, encode_utf8, append_assoc, append-nil, ap, sym, ◌∙◌, refl, arith}
use Rattle.std.proofs.lemmas.Str.{chars-nil}
use Rattle.phone_matches_text.proofs.Ends.{end_of_end}
use Rattle.phone_matches_text.specs.Sets.{is_in}
use Rattle.std.proofs.lemmas.List.{append_cancel_right}
use Rattle.phone_parts.specs.Cores.{begins_second_number}
use Rattle.phone_matches_text.proofs.Steps.{second_later, second_stops}
use Rattle.phone_matches_text.specs.Candidates.{before_second}
use Rattle.phone_matches_text.proofs.candidates.before_second.Goals as goal

pub returns-then-is_second_number-clause-read : goal.returns-then-is_second_number-clause-read
returns-then-is_second_number-clause-read c =
    let i = c.loop-after.invariant.2 in
    let front = chars c.before-then-is_second_number.result.now in
    let rest = chars c.loop-after.rest.now in
    let same : i.0 ≡ front = append_cancel_right i.0 front rest (sym i.1 ∙ c.before-then-is_second_number.ensures.read c.loop-after.invariant.1) in
    sym (i.2 ∙ ap (λ t. i.0 ++ t) (second_stops rest (sym c.is_second_number.ensures ∙ c.if-is_second_number.true)) ∙ append-nil i.0 ∙ same)

pub loop-after-preserved : goal.loop-after-preserved
loop-after-preserved c =
    let i = c.loop-after.invariant.2 in
    let x = c.in-Some.field-0-0 in
    let next = chars c.in-Some.after.now in
    let later : begins_second_number (x ∷ next) ≡ false =
    ap begins_second_number (sym c.in-Some.ensures.read) ∙ sym c.is_second_number.ensures ∙ c.if-is_second_number.false in (
      search rules,
      end_of_end _ _ _ c.loop-after.invariant.1 c.in-Some.ensures.end,
      (
        i.0 ++ x ∷ [],
        i.1 ∙ ap (λ t. i.0 ++ t) c.in-Some.ensures.read ∙ sym (append_assoc i.0 (x ∷ []) next),
        i.2 ∙ ap (λ t. i.0 ++ t) (ap before_second c.in-Some.ensures.read ∙ second_later x next later) ∙ sym (append_assoc i.0 (x ∷ []) (before_second next)),
      ),
    )
