use Rattle.std.proofs.Common.{◌≡◌, ◌==◌, ◌∷◌, ◌++◌, true≢false, ap, sym, ◌∙◌}
use Rattle.std.specs.Str.{chars}
use Rattle.phone_chars.specs.Cuts.{after_front}
use Rattle.phone_parts.specs.Tel.{is_name_char, is_value_char}
use Rattle.phone_parts.specs.Texts.{begins}
use Rattle.phone_parts.proofs.Runs.{all_in_front, none_after_front, run_whole}
use Rattle.phone_parts.proofs.Slices.{slice_of_end, slice_from_front, end_of_end}
use Rattle.phone_parts.proofs.Tels.{parameter_cut}
use Rattle.phone_parts.proofs.parameters.parameter.Goals as goal

pub returns-clause-read : goal.returns-clause-read
returns-clause-read c =
    let r = c.split_run.ensures in
    let s = c.split_run-2.ensures in
    let name = chars c.split_run.result.0.now in
    let value = chars c.split_run-2.result.0.now in
    let named = run_whole is_name_char (chars c.in_ok-named.named.now) name (chars c.split_run.result.1.now) r.front r.rest in
    let valued = run_whole is_value_char (chars c.in_ok-valued.valued.now) value (chars c.split_run-2.result.1.now) s.front s.rest in
    record {
      whole = c.in_ok-named.ensures.read ∙ ap (λ t. 59 ∷ t) (named ∙ ap (λ t. name ++ t) (c.in_ok-valued.ensures.read ∙ ap (λ t. 61 ∷ t) valued));
      named = rw r.front (all_in_front is_name_char (chars c.in_ok-named.named.now));
      valued = rw s.front (all_in_front is_value_char (chars c.in_ok-valued.valued.now));
      longest = rw s.rest (none_after_front is_value_char (chars c.in_ok-valued.valued.now));
    }

pub returns-in_err-valued-clause-read : goal.returns-in_err-valued-clause-read
returns-in_err-valued-clause-read c = rw c.from_residual-in_err-valued.ensures (λ p rest h.
    let cut = parameter_cut p (chars c.args.text.now) rest h in
    let named = chars c.in_ok-named.named.now in
    let same : cut.after ≡ named = cc (cut.semicolon, c.in_ok-named.ensures.read) in
    let equals : 61 ∷ cut.valued ≡ chars c.split_run.result.1.now = cut.equals ∙ ap (after_front is_name_char) same ∙ sym c.split_run.ensures.rest in
    true≢false (ap (begins (λ d. d == 61)) equals ∙ c.in_err-valued.ensures.read))

pub returns-clause-value : goal.returns-clause-value
returns-clause-value c =
    let a = c.in_ok-named.ensures.end in
    let b = c.in_ok-valued.ensures.end in
    slice_of_end _ a.0 _ _ a.1 (slice_of_end _ c.split_run.result.0.now _ _ c.split_run.ensures.whole
    (slice_of_end _ b.0 _ _ b.1 (slice_from_front _ _ c.split_run-2.result.1.now c.split_run-2.ensures.whole)))

pub returns-clause-end : goal.returns-clause-end
returns-clause-end c =
    end_of_end _ _ _ c.in_ok-named.ensures.end (end_of_end _ _ _ (c.split_run.result.0.now, c.split_run.ensures.whole)
    (end_of_end _ _ _ c.in_ok-valued.ensures.end (c.split_run-2.result.0.now, c.split_run-2.ensures.whole)))
