use Rattle.std.proofs.Common.{◌≡◌, ℕ, inl, inr, ⊎_elim, Some, None, option_map, unwrap_or, Result, Ok, IfOk, IsSome, refl, ap, sym, subst, ◌∙◌}
use Rattle.std.specs.Cow.{cow_str_bytes, IsBorrowedStr}
use Rattle.std.specs.Fmt.{decimal}
use Rattle.std.specs.Option.{option_copied}
use Rattle.std.specs.Result.{result_map_both}
use Rattle.phone_values.specs.declared.country.Source.TheVariants.{Plus}
use Rattle.phone_values.specs.declared.error.ParseError.{ParseError}
use Rattle.phone_parts.specs.declared.number.Number.{Number as Parts}
use Rattle.phone_read.specs.CallingCodes.{IsCoded, KeepsLentCode, code_by, code_by_prefix, with_three}
use Rattle.phone_read.specs.Hints.{Coded}
use Rattle.phone_read.proofs.Results.{ok_again, err_again}
use Rattle.phone_read.proofs.FoundCodes.{code_by-front, ok_both, err_both, ok_made}
use Rattle.phone_read.specs.WithoutMemory.{AnswersAtOnce}
use Rattle.phone_read.proofs.calling_code.with_code.Goals as goal
use Rattle.phone_read.proofs.calling_code.with_code.Goals.{In_default}

pub returns-in-Some : goal.returns-in-Some
returns-in-Some c =
    let number = c.args.number in
    let x = cow_str_bytes c.in-Some.prefix in
    let some : option_map cow_str_bytes number.prefix ≡ Some x = ap (option_map cow_str_bytes) c.in-Some.is in
    let at : ℕ → Coded = λ code. record { source = Plus; value = code; rest = c.as_str-in-Some.result.now } in
    let told : code_by c.args.db.now (option_copied c.args.territory) (option_map cow_str_bytes number.prefix) number.country (cow_str_bytes number.national)
    ≡ result_map_both at (λ e. e) c.code_by_prefix-code.result =
    ap (λ o. code_by c.args.db.now (option_copied c.args.territory) o number.country (cow_str_bytes number.national)) some
    ∙ ap (λ t. with_three t (code_by_prefix c.args.db.now x t)) (sym c.as_str-in-Some.ensures.value)
    ∙ ap (λ t. with_three c.as_str-in-Some.result.now (code_by_prefix c.args.db.now t c.as_str-in-Some.result.now)) (sym c.as_str.ensures.value)
    ∙ c.code_by_prefix-code.ensures in
    let made = c.by_prefix.ensures in
    let none : ¬ (number.prefix ≡ None) = λ none. cc in
    record {
      coded = ok_both c.by_prefix.result _ c.code_by_prefix-code.result _ at
          (λ h r. r.code ≡ h.value) (λ h r. IsCoded h (unwrap_or (option_map cow_str_bytes number.prefix) (decimal h.value)) (option_map cow_str_bytes number.extension) number r.number)
          made told (λ code. refl) (λ code. record {
            country = c.requires (subst IsSome (sym c.in-Some.is) refl);
            national = sym c.as_str-in-Some.ensures.value;
            prefix = refl;
            extension = refl;
            carrier = refl;
          });
      territory = ok_made c.by_prefix.result c.code_by_prefix-code.result _ (λ r. r.territory ≡ c.args.territory) made (λ code. refl);
      refused = err_again c.by_prefix.result _ _ (λ e f. inr f) (err_both c.by_prefix.result _ c.code_by_prefix-code.result _ at made told);
      at_once = record {
        refusals = err_both _ c.by_prefix.result c.code_by_prefix-code.result at _ told made;
        no_other = λ m. err_both c.by_prefix.result _ c.code_by_prefix-code.result _ at made told;
      };
      lent = ok_made c.by_prefix.result c.code_by_prefix-code.result _ (λ r. IsBorrowedStr number.national → KeepsLentCode number r.number) made (λ code lent. record {
        kept = record {
          national = λ same. lent;
          prefix = λ e other. absurd (none e);
          carrier = inl refl;
        };
        has_prefix = λ other. subst IsSome (sym c.in-Some.is) refl;
      });
    }

-- without a prefix
module _ (c : In_default) where
  none : option_map cow_str_bytes c.args.number.prefix ≡ None
  none = ap (option_map cow_str_bytes) c.in_default.is

  abbrev told_code : Result Coded ParseError
  told_code = code_by c.args.db.now (option_copied c.args.territory) (option_map cow_str_bytes c.args.number.prefix) c.args.number.country (cow_str_bytes c.args.number.national)

  -- the code is told by the source and the digits
  by_source : told_code ≡ code_by c.args.db.now (option_copied c.args.territory) None c.args.number.country (cow_str_bytes c.args.number.national)
  by_source = ap (λ o. code_by c.args.db.now (option_copied c.args.territory) o c.args.number.country (cow_str_bytes c.args.number.national)) none

  -- and a number with it has it as prefix
  coded : {T : Type 0} (r : Result T ParseError) (code : T → ℕ) (number : T → Parts) (found : Result Coded ParseError) → told_code ≡ found →
      IfOk r (λ r. (h : Coded) × (found ≡ Ok h) × (code r ≡ h.value) × IsCoded h (decimal h.value) (option_map cow_str_bytes c.args.number.extension) c.args.number (number r)) →
      IfOk r (λ r. (h : Coded) × (told_code ≡ Ok h) × (code r ≡ h.value)
      × IsCoded h (unwrap_or (option_map cow_str_bytes c.args.number.prefix) (decimal h.value)) (option_map cow_str_bytes c.args.number.extension) c.args.number (number r))
  coded r code number found told is =
      ok_again r _ _
      (λ r h. (h.0, told ∙ h.1, h.2, subst (λ o. IsCoded h.0 (unwrap_or o (decimal h.0.value)) (option_map cow_str_bytes c.args.number.extension) c.args.number (number r)) (sym none) h.3))
      is

pub returns-in_default-country : goal.returns-in_default-country
returns-in_default-country c =
    let arm = (goal.at.returns-in_default-country c).In_default in
    let told = by_source arm ∙ code_by-front c.args.db.now (option_copied c.args.territory) c.args.number.country (cow_str_bytes c.args.number.national) c.in_default-country.not-Default in
    record {
      coded = coded arm c.by_front.result (λ r. r.code) (λ r. r.number) _ told c.by_front.ensures.coded;
      territory = c.by_front.ensures.territory;
      refused = err_again c.by_front.result _ _ (λ e f. inr (told ∙ f)) c.by_front.ensures.refused;
      at_once = subst (λ t. AnswersAtOnce (option_copied c.args.territory) t c.by_front.result) (sym told) c.by_front.ensures.at_once;
      lent = c.by_front.ensures.lent;
    }

pub returns-in-Default : goal.returns-in-Default
returns-in-Default c =
    let arm = (goal.at.returns-in-Default c).In_default in
    let told = by_source arm ∙ ap (λ s. code_by c.args.db.now (option_copied c.args.territory) None s (cow_str_bytes c.args.number.national)) c.in-Default.is in
    record {
      coded = coded arm c.by_hint.result (λ r. r.code) (λ r. r.number) _ told c.by_hint.ensures.coded;
      territory = c.by_hint.ensures.territory;
      refused = err_again c.by_hint.result _ _ (λ e h. ⊎_elim (λ f. inl f) (λ f. inr (told ∙ f)) h) c.by_hint.ensures.refused;
      at_once = subst (λ t. AnswersAtOnce (option_copied c.args.territory) t c.by_hint.result) (sym told) c.by_hint.ensures.at_once;
      lent = c.by_hint.ensures.lent;
    }
