use Rattle.std.proofs.Common.{◌⊎◌, ◌≡◌, ◌==◌, [], ◌++◌, true, option_map, option_copied, true≢false, ap, sym, subst, ◌∙◌}
use Rattle.std.specs.Option.{option_or}
use Rattle.std.specs.Str.{chars}
use Rattle.phone_parts.specs.Tel.{IsSignedRun, is_phonedigit, without_plus}
use Rattle.phone_parts.specs.Texts.{begins}
use Rattle.phone_parts.proofs.Runs.{all_in_front, none_after_front, run_whole, run_begins}
use Rattle.phone_parts.proofs.Slices.{slice_of_end, slice_from_front, end_of_end, within}
use Rattle.phone_parts.proofs.Tels.{scheme_of, scheme_cut, tel_cuts}
use Rattle.phone_parts.proofs.rfc3966.phone_number.Goals as goal

pub returns-in_err-run-clause-read : goal.returns-in_err-run-clause-read
returns-in_err-run-clause-read c = rw c.from_residual.ensures (λ parts h.
    c.in_err-run.ensures.read h.signed_run (parts.national ++ h.tail) h.run (c.without_scheme.ensures.read ∙ scheme_cut (chars c.args.text.now) parts h) h.is_run)

pub returns-then-is_nothing-clause-read : goal.returns-then-is_nothing-clause-read
returns-then-is_nothing-clause-read c = λ parts h.
    let signed = c.in_ok-run.ensures.read in
    let cuts = tel_cuts (chars c.args.text.now) parts h signed.0 (chars c.in_ok-run.rest.now) _ (sym c.without_scheme.ensures.read ∙ signed.1) signed.2 in
    let none : parts.national ≡ [] = cuts.national ∙ sym c.split_run.ensures.front ∙ c.is_nothing.ensures.nothing c.if-is_nothing.true in
    true≢false (sym h.some_national ∙ ap (begins is_phonedigit) none)

pub returns-then-not-is_tail-clause-read : goal.returns-then-not-is_tail-clause-read
returns-then-not-is_tail-clause-read c = λ parts h.
    let signed = c.in_ok-run.ensures.read in
    let cuts = tel_cuts (chars c.args.text.now) parts h signed.0 (chars c.in_ok-run.rest.now) _ (sym c.without_scheme.ensures.read ∙ signed.1) signed.2 in
    let tail : h.tail ≡ chars c.split_run.result.1.now = cuts.tail ∙ sym c.split_run.ensures.rest in
    true≢false (sym (c.is_tail.ensures.1 (subst (λ t. (t ≡ []) ⊎ (begins (λ x. x == 59) t ≡ true)) tail h.is_tail)) ∙ c.if-not-is_tail.true)

pub returns-clause-read : goal.returns-clause-read
returns-clause-read c =
    let text = chars c.args.text.now in
    let scheme = scheme_of text in
    let signed = c.in_ok-run.ensures.read in
    let rest = chars c.in_ok-run.rest.now in
    let run = option_map chars (option_copied c.in_ok-run.run') in
    let national = chars c.split_run.result.0.now in
    let tail = chars c.split_run.result.1.now in
    let r = c.split_run.ensures in
    let cut : rest ≡ national ++ tail = run_whole is_phonedigit rest national tail r.front r.rest in
    let some : ¬ (national ≡ []) = c.is_nothing.ensures.something c.if-is_nothing.false in
    let ps = c.read_parameters-parameters.ensures.read in
    record {
      scheme = scheme.scheme;
      signed_run = signed.0;
      run = run;
      tail = tail;
      parameters = ps.0;
      no_space = sym c.has_space.ensures ∙ c.if-has_space.false;
      whole = scheme.whole ∙ ap (λ t. scheme.scheme ++ t) (sym c.without_scheme.ensures.read ∙ signed.1 ∙ ap (λ t. signed.0 ++ t) cut);
      is_scheme = scheme.is_scheme;
      is_run = subst (λ t. IsSignedRun t signed.0 run) cut signed.2;
      some_national = run_begins is_phonedigit national (rw r.front (all_in_front is_phonedigit rest)) some;
      all_national = rw r.front (all_in_front is_phonedigit rest);
      longest = rw r.rest (none_after_front is_phonedigit rest);
      is_tail = c.is_tail.ensures.0 c.if-not-is_tail.false;
      has_parameters = ps.1;
      prefix = c.lend.ensures.read ∙ c.prefix.ensures.read ∙ ap (λ o. option_or run (option_map without_plus o)) ps.2;
      extension = c.lend-2.ensures.read ∙ ps.3;
    }

pub returns-clause-lent : goal.returns-clause-lent
returns-clause-lent c =
    let rest = end_of_end _ _ _ c.without_scheme.ensures.end c.in_ok-run.ensures.end in
    let tail = end_of_end _ _ _ rest (c.split_run.result.0.now, c.split_run.ensures.whole) in
    let w = c.without_scheme.ensures.end in
    let run = within c.args.text.now w.0 c.without_scheme.result.now w.1 c.in_ok-run.run' c.in_ok-run.ensures.run in
    let ps = c.read_parameters-parameters in
    let context = within c.args.text.now tail.0 c.split_run.result.1.now tail.1 ps.result.context ps.ensures.context in
    let extension = within c.args.text.now tail.0 c.split_run.result.1.now tail.1 ps.result.extension ps.ensures.extension in
    record {
      national = record { borrowed = tt; slice = slice_of_end c.args.text.now rest.0 c.in_ok-run.rest.now c.split_run.result.0.now rest.1 (slice_from_front _ _ c.split_run.result.1.now c.split_run.ensures.whole) };
      prefix = c.lend.ensures.lent c.args.text.now (c.prefix.ensures.slice c.args.text.now run context);
      extension = c.lend-2.ensures.lent c.args.text.now extension;
    }
