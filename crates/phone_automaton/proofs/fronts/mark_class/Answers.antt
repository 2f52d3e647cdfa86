use Rattle.std.proofs.Common.{sym, ◌∙◌, ⊎_elim, arith, rules}
use Rattle.std.proofs.lemmas.Bool.{both_ways, or_cases}
use Rattle.regex_class.specs.Ranges.{range_at}
use Rattle.regex_class.proofs.RangesLemmas.{in_ranges-nil, in_ranges-more, in_range_tells}
use Rattle.regex_extract.proofs.SidesLemmas.{in_ranges-below}
use Rattle.phone_automaton.proofs.fronts.mark_class.Goals as goal

pub loop-range-init : goal.loop-range-init
loop-range-init c =
    (λ x h. absurd (both_ways _ (in_ranges-nil x) h), λ b h. h)

pub returns-then-range-most-clause-marks : goal.returns-then-range-most-clause-marks
returns-then-range-most-clause-marks c =
    λ x h low. c.loop-range.invariant.0 x
    (rw c.deref-range-items.ensures.value (in_ranges-below _ c.loop-range.range-index x c.args.class.now.canonical (search rules) (search rules) h)) low

pub loop-range-preserved : goal.loop-range-preserved
loop-range-preserved c =
    let rs = c.deref-range-items.result.now in
    let i = c.loop-range.range-index in
    let step = c.mark_range.ensures in (
      λ x h low. ⊎_elim
          (λ old. step.keeps x (c.loop-range.invariant.0 x old low))
          (λ new. let tells = in_range_tells (range_at rs i) x in step.marks x (grind arith) (grind arith))
          (or_cases _ _ (sym (in_ranges-more rs i x c.loop-range-test.true) ∙ h)),
      λ b h. step.keeps b (c.loop-range.invariant.1 b h),
    )
