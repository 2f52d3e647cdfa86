use Rattle.std.proofs.Common.{refl, arith}
use Rattle.regex_extract.proofs.SidesLemmas.{Marks-char_in}
use Rattle.phone_automaton.proofs.fronts.mark_chars.Goals as goal

pub returns-then-not-is_within-clause-marks : goal.returns-then-not-is_within-clause-marks
returns-then-not-is_within-clause-marks c =
    Marks-char_in _ _ _ _ (λ x h low. c.mark_range.ensures.keeps x (c.mark_class.ensures.marks x h low)) (λ x h big. c.mark_range.ensures.marks)

pub returns-else-not-is_within-clause-marks : goal.returns-else-not-is_within-clause-marks
returns-else-not-is_within-clause-marks c =
    Marks-char_in _ _ _ _ c.mark_class.ensures.marks (λ x h big. absurd (omega (arith, c.if-not-is_within.ensures.0 refl x h)))
