use Rattle.std.proofs.Common.{◌≡◌, ◌≤◌, ◌<◌, ◌+◌, ◌++◌, ℕ, List, Bool, true, false, chars, leb, length, ap, subst, sym, ◌∙◌, arith, refl}
use Rattle.std.proofs.Common.{IsCharBoundary, slice_range}
use Rattle.std.proofs.lemmas.Bool.{leb-false, leb-true}
use Rattle.phone_chars.specs.Cuts.{IsEnd}
use Rattle.phone_find.specs.Shapes.{has_few_digits}
use Rattle.phone_find.proofs.Reach.{border_before, candidate_reach}
use Rattle.phone_find.proofs.numbers.SufficientJudgePhoneNumber.reach.Goals as goal

pub returns : goal.returns
returns c f s e =
    let text = c.args.text.now in
    let most = c.floor_char_boundary-most.result in
    let rest = c.from_too_many.result.now in
    let near : f.end ≤ c.saturating_add.result = omega (arith, c.saturating_add.ensures, s.short, e, s.to_border.0) in
    let within = border_before text f.end most c.saturating_add.result near c.floor_char_boundary-most.ensures.nearest s.to_border in
    let from : c.range.result.now ≡ slice_range text f.start most = c.range.ensures.value ∙ ap (λ i. slice_range text i most) (sym e) in
    let far = candidate_reach text f.start f.end most rest c.utf8.text s.some within s.from_border s.to_border
    c.floor_char_boundary-most.ensures.boundary c.from_too_many.utf8
    (subst (λ t. IsEnd t rest) from c.from_too_many.ensures.end)
    (subst (λ t. (piece after : List ℕ) → chars t ≡ piece ++ after → has_few_digits piece ≡ true → length (chars rest) ≤ length after)
    from c.from_too_many.ensures.bound) s.accepted.candidate in
    omega (arith, far, c.saturating_sub.ensures)
