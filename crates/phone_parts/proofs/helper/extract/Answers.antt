use Rattle.std.proofs.Common.{◌≡◌, ⊎_elim, not, [], ◌∙◌, subst}
use Rattle.std.specs.Str.{chars}
use Rattle.phone_chars.specs.Cuts.{after_front}
use Rattle.phone_parts.specs.Cores.{is_start, IsTrimmed}
use Rattle.phone_parts.proofs.Cores.{core_same, from_first, nil_trimmed, nil_first_number}
use Rattle.phone_parts.proofs.helper.extract.Goals as goal

pub returns-then-is_nothing-clause-core : goal.returns-then-is_nothing-clause-core
returns-then-is_nothing-clause-core c = λ core h.
    let text = chars c.args.text.now in
    let kept = chars c.trim_end.result.now in
    let trimmed = subst (λ t. IsTrimmed t kept) c.after_run.ensures.rest c.trim_end.ensures.read in
    h.not_empty (core_same text core kept (chars c.first_number-core.result.now) h trimmed c.first_number-core.ensures.read ∙ c.is_nothing.ensures.nothing c.if-is_nothing.true)

pub returns-else-is_nothing-clause-core : goal.returns-else-is_nothing-clause-core
returns-else-is_nothing-clause-core c =
    let text = chars c.args.text.now in
    let kept = chars c.trim_end.result.now in
    let core = chars c.first_number-core.result.now in
    let trimmed = subst (λ t. IsTrimmed t kept) c.after_run.ensures.rest c.trim_end.ensures.read in
    let f = from_first is_start text in
    let some : ¬ (core ≡ []) = c.is_nothing.ensures.something c.if-is_nothing.false in
    record {
      before = f.before;
      from = after_front (λ x. not (is_start x)) text;
      kept = kept;
      whole = f.whole;
      no_start = f.none;
      starts = ⊎_elim (λ e. absurd (some (nil_first_number kept core (nil_trimmed _ kept e trimmed) c.first_number-core.ensures.read))) (λ e. e) f.first;
      trimmed = trimmed;
      first = c.first_number-core.ensures.read;
      not_empty = some;
    }
