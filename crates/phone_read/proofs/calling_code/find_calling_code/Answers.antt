use Rattle.std.proofs.Common.{◌≡◌, inl, inr, ⊎_elim, Some, None, true, false, Option, option_map, unwrap_or, Err, IfErr, refl, ap, sym, subst, ◌∙◌}
use Rattle.std.proofs.lemmas.Bool.{false≢true}
use Rattle.std.specs.Borrow.{Bor}
use Rattle.std.specs.Cow.{cow_str_bytes}
use Rattle.std.specs.Fmt.{decimal}
use Rattle.std.specs.Option.{option_copied, option_map_or}
use Rattle.std.specs.Str.{chars}
use Rattle.phone_read.specs.Dialling.{found_in}
use Rattle.phone_read.specs.CallingCodes.{international_prefix_of}
use Rattle.phone_read.proofs.BareParts.{bare_plain}
use Rattle.phone_read.proofs.FoundCodes.{code_of-dialled, plus_by_prefix, prefix_of-read, not_memory, code_of-told, is_coded_again}
use Rattle.phone_read.proofs.LentCodes.{keeps_again}
use Rattle.phone_read.proofs.LentParts.{no_prefix}
use Rattle.phone_read.proofs.Results.{ok_again, err_again}
use Rattle.phone_read.proofs.calling_code.find_calling_code.Goals as goal

-- no pattern has nothing to find
idle : {X : Type 0} (o : Option (Bor X)) → option_copied o ≡ None → option_map_or (λ _. false) o true ≡ true
idle None e = refl
idle (Some p) e = cc

pub returns-in_err-number-clause-no_memory : goal.returns-in_err-number-clause-no_memory
returns-in_err-number-clause-no_memory c =
    let n = chars (cow_str_bytes c.args.number.national) in
    let p = option_map (λ p. chars (cow_str_bytes p)) c.args.number.prefix in
    let e = option_map (λ e. chars (cow_str_bytes e)) c.args.number.extension in
    let no_pattern = c.prefix_pattern.ensures ∙ ap international_prefix_of c.hint_territory-territory.ensures in
    record {
      refusals = λ none bare. absurd (false≢true (c.in_err-number.ensures.no_memory (idle c.prefix_pattern.result (no_pattern ∙ none)) (bare_plain n p e bare)));
      answers = λ none lent plain memory.
          absurd (false≢true (c.in_err-number.ensures.no_memory (idle c.prefix_pattern.result (no_pattern ∙ ap international_prefix_of none)) plain));
    }

pub with_code-requires : goal.with_code-requires
with_code-requires c =
    let n = chars (cow_str_bytes c.args.number.national) in
    let p = option_map (λ p. chars (cow_str_bytes p)) c.args.number.prefix in
    λ some. c.in_ok-number.ensures.source
    ∙ plus_by_prefix cow_str_bytes c.in_ok-number.number.prefix (found_in (option_copied c.prefix_pattern.result)) n p c.in_ok-number.ensures.prefix some

pub returns : goal.returns
returns c =
    let number = c.in_ok-number.number in
    let n = chars (cow_str_bytes c.args.number.national) in
    let p = option_map (λ p. chars (cow_str_bytes p)) c.args.number.prefix in
    let told =
    code_of-dialled c.args.db.now c.args.hint (option_copied c.hint_territory-territory.result) (option_copied c.prefix_pattern.result) n p (option_map cow_str_bytes number.prefix)
    number.country (cow_str_bytes number.national) c.hint_territory-territory.ensures c.prefix_pattern.ensures c.in_ok-number.ensures.prefix
    c.in_ok-number.ensures.source c.in_ok-number.ensures.national in
    record {
      coded = ok_again c.with_code.result _ _
          (λ r h. (
            h.0,
            told ∙ h.1,
            h.2,
            is_coded_again h.0 _ _ _ _ number c.args.number r.number (ap (λ o. unwrap_or o (decimal h.0.value)) c.in_ok-number.ensures.prefix ∙ prefix_of-read p h.0.value)
                c.in_ok-number.ensures.extension c.in_ok-number.ensures.carrier h.3,
          ))
          c.with_code.ensures.coded;
      territory = ok_again c.with_code.result _ _ (λ r h. ap option_copied h ∙ c.hint_territory-territory.ensures) c.with_code.ensures.territory;
      refused = err_again c.with_code.result _ _ (λ e h. ⊎_elim (λ f. inl f) (λ f. inr (told ∙ f)) h) c.with_code.ensures.refused;
      no_memory = record {
        refusals = λ none bare. subst (λ r. IfErr r (λ e. c.with_code.result ≡ Err e)) (sym told) c.with_code.ensures.at_once.refusals;
        answers = λ none lent plain.
            not_memory c.with_code.result _ _ (code_of-told c.args.db.now c.args.hint n p none) told (c.with_code.ensures.at_once.no_other (c.hint_territory-territory.ensures ∙ none));
      };
      lent = ok_again c.with_code.result _ _
          (λ r h lent. keeps_again number c.args.number r.number (no_prefix c.args.number number c.in_ok-number.ensures.prefix) c.in_ok-number.ensures.carrier
          (h ((c.in_ok-number.ensures.lent lent).national refl)))
          c.with_code.ensures.lent;
    }
