use Rattle.std.proofs.Common.{rules, ◌≡◌, inl, inr, ⊎_elim, Some, option_map, unwrap_or, Ok, Err, IfOk, IfErr, IfSome, ap, sym, subst, ◌∙◌}
use Rattle.std.specs.Cow.{cow_str_bytes, IsBorrowedStr}
use Rattle.std.specs.Fmt.{decimal}
use Rattle.std.specs.Str.{chars}
use Rattle.phone_values.specs.declared.country.Source.TheVariants.{Default}
use Rattle.phone_read.proofs.BareParts.{plain_national}
use Rattle.phone_read.specs.WithoutMemory.{AnswersWithoutMemory}
use Rattle.phone_read.proofs.FoundCodes.{IsTold, code_of-told}
use Rattle.phone_read.proofs.LentCodes.{refused_again}
use Rattle.phone_read.proofs.calling_code.country_code.Goals as goal

pub returns-in_err-coded-clause-no_memory : goal.returns-in_err-coded-clause-no_memory
returns-in_err-coded-clause-no_memory c =
    let same : c.from_residual.result ≡ Err c.in_err-coded.field-0.0 = search rules in
    subst (AnswersWithoutMemory c.args.db.now c.args.hint c.args.number) (sym same)
    (refused_again c.args.db.now c.args.hint c.args.number c.in_err-coded.field-0.0 c.in_err-coded.ensures.no_memory)

pub returns-in_err-with_code_as_prefix-clause-no_memory : goal.returns-in_err-with_code_as_prefix-clause-no_memory
returns-in_err-with_code_as_prefix-clause-no_memory c = record {
  refusals = λ none bare. subst (λ r. IfErr r (λ e. c.from_residual-in_err-with_code_as_prefix.result ≡ Err e)) (sym c.in_ok-coded.ensures.coded.1) tt;
  answers = λ none lent plain memory.
      let n = chars (cow_str_bytes c.args.number.national) in
      let p = option_map (λ p. chars (cow_str_bytes p)) c.args.number.prefix in
      let e = option_map (λ e. chars (cow_str_bytes e)) c.args.number.extension in
      let found = c.in_ok-coded.ensures.coded in
      let other : ¬ (c.in_ok-coded.coded.number.country ≡ Default) =
      λ d. subst IsTold found.1 (code_of-told c.args.db.now c.args.hint n p none) (sym found.3.country ∙ d) in
      let kept = c.in_err-with_code_as_prefix.ensures.kept ((c.in_ok-coded.ensures.lent (record { borrowed = lent; digits = plain_national n p e plain })).has_prefix other) in
      cc;
}

pub returns-clause-coded : goal.returns-clause-coded
returns-clause-coded c =
    let found = c.in_ok-coded.ensures.coded in
    let made = c.in_ok-with_code_as_prefix.ensures in (
      found.0,
      found.1,
      record {
        country = made.country ∙ found.3.country;
        national = ap cow_str_bytes made.national ∙ found.3.national;
        prefix = made.prefix ∙ ap Some (ap (λ v. unwrap_or (option_map cow_str_bytes c.in_ok-coded.coded.number.prefix) (decimal v)) found.2 ∙ found.3.prefix);
        extension = ap (option_map cow_str_bytes) made.extension ∙ found.3.extension;
        carrier = made.carrier ∙ found.3.carrier;
      },
    )

pub returns-clause-no_memory : goal.returns-clause-no_memory
returns-clause-no_memory c = record {
  refusals = λ none bare. subst (λ r. IfErr r (λ e. Ok c.in_ok-with_code_as_prefix.field-0 ≡ Err e)) (sym c.in_ok-coded.ensures.coded.1) tt;
  answers = λ none lent plain memory. cc;
}

pub returns-clause-lent : goal.returns-clause-lent
returns-clause-lent c lent =
    let found = c.in_ok-coded.ensures.lent lent in
    let made = c.in_ok-with_code_as_prefix.ensures in
    record {
      national = λ same. subst IsBorrowedStr (sym made.national) (found.kept.national same);
      prefix = λ none other.
          let told : ¬ (c.in_ok-coded.coded.number.country ≡ Default) = λ d. other (made.country ∙ d) in
          let same = made.kept (found.has_prefix told) in
          subst (λ r. IfOk r (λ n. IfSome n.prefix (λ p. IsBorrowedStr p))) (sym same) (found.kept.prefix none told);
      carrier = ⊎_elim (λ same. inl (made.carrier ∙ same)) (λ lent. inr (subst (λ o. IfSome o (λ p. IsBorrowedStr p)) (sym made.carrier) lent)) found.kept.carrier;
    }
