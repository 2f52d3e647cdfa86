use Rattle.std.proofs.Common.{rules, ◌≡◌, ℕ, Bool, List, ◌&&◌, not, Option, Some, None, Result, Ok, Err, IfOk, IfErr, option_map, drop, length, refl, ap, sym, subst, ◌∙◌}
use Rattle.std.specs.Borrow.{Bor}
use Rattle.std.specs.Cow.{cow_str_bytes}
use Rattle.std.specs.Fmt.{decimal}
use Rattle.std.specs.Option.{option_copied, option_map_or}
use Rattle.phone_values.specs.declared.country.Source.TheVariants.{Number, Default}
use Rattle.phone_values.specs.declared.error.ParseError.{ParseError}
use Rattle.phone_values.specs.declared.error.ParseError.TheVariants.{InvalidCountryCode}
use Rattle.phone_records.specs.declared.loader.Metadata.{Metadata}
use Rattle.phone_parts.specs.Texts.{is_front}
use Rattle.phone_parts.specs.declared.number.Number.{Number as Parts}
use Rattle.phone_read.specs.CallingCodes.{IsCoded}
use Rattle.phone_read.specs.Hints.{Coded, code_by_hint, looks_national}
use Rattle.phone_read.proofs.HintCodes.{code_by_hint-apart, code_by_hint-kept}
use Rattle.phone_read.proofs.calling_code.by_hint.Goals as goal
use Rattle.phone_read.proofs.calling_code.by_hint.Goals.{In_ok-is_apart}

-- what was asked of one number's digits, told of another's that are the same
told : {E : Type 0} (f : List ℕ → Bool) (r : Result Bool E) (b : Bool) (t : List ℕ) (n m : Parts) →
    IfOk r (λ b. b ≡ f t) → r ≡ Ok b → t ≡ cow_str_bytes n.national → n ≡ m → b ≡ f (cow_str_bytes m.national)
told f r b t n m asked made text same = subst (λ r. IfOk r (λ b. b ≡ f t)) made asked ∙ ap f (text ∙ ap (λ (n : Parts). cow_str_bytes n.national) same)

module _ (c : In_ok-is_apart) where
  abbrev digits : List ℕ
  digits = cow_str_bytes c.in_ok-is_apart.number.national

  abbrev code : ℕ
  code = c.country_code-code.result

  -- whether the code stands apart is told of the number's own digits
  apart_is : c.in_ok-is_apart.is_apart ≡ (is_front (decimal code) digits && not (looks_national c.in-Some.territory.now digits))
  apart_is =
      told (λ d. is_front (decimal code) d && not (looks_national c.in-Some.territory.now d)) c.is_code_apart-is_apart.result c.in_ok-is_apart.is_apart c.as_str.result.now
      c.args.number c.in_ok-is_apart.number c.is_code_apart-is_apart.ensures c.in_ok-is_apart.ensures.made.0 c.as_str.ensures.value c.in_ok-is_apart.ensures.made.1

  -- what the hint's rule gives is the answer for the number that was given
  coded : (x : Coded) (value : ℕ) (left : Parts) → code_by_hint c.in-Some.territory.now digits ≡ x → value ≡ x.value →
      IsCoded x (decimal x.value) (option_map cow_str_bytes c.in_ok-is_apart.number.extension) c.in_ok-is_apart.number left →
      (x : Coded) × (option_map_or (λ m. Ok (code_by_hint m (cow_str_bytes c.args.number.national))) (option_copied c.args.territory) (Err InvalidCountryCode) ≡ Ok x)
      × (value ≡ x.value) × IsCoded x (decimal x.value) (option_map cow_str_bytes c.args.number.extension) c.args.number left
  coded x value left found same is =
      subst (λ (n : Parts). (x : Coded) × (option_map_or (λ m. Ok (code_by_hint m (cow_str_bytes n.national))) (option_copied c.args.territory) (Err InvalidCountryCode) ≡ Ok x)
      × (value ≡ x.value) × IsCoded x (decimal x.value) (option_map cow_str_bytes n.extension) n left)
      (sym c.in_ok-is_apart.ensures.made.1)
      (x, ap (λ o. option_map_or (λ m. Ok (code_by_hint m digits)) (option_copied o) (Err InvalidCountryCode)) c.in-Some.is ∙ ap Ok found, same, is)

pub returns-then-is_apart-clause-coded : goal.returns-then-is_apart-clause-coded
returns-then-is_apart-clause-coded c =
    let arm = (goal.at.returns-then-is_apart-clause-coded c).In_ok-is_apart in
    coded arm (record { source = Number; value = code arm; rest = drop (length (decimal (code arm))) (digits arm) }) c.cut_off.result.code c.cut_off.result.number
    (code_by_hint-apart c.in-Some.territory.now (digits arm) (decimal (code arm)) (code arm) c.country_code-code.ensures refl (sym c.if-is_apart.true ∙ apart_is arm))
    c.cut_off.ensures.code c.cut_off.ensures.coded

pub returns-clause-coded : goal.returns-clause-coded
returns-clause-coded c =
    let arm = (goal.at.returns-clause-coded c).In_ok-is_apart in
    let number = c.in_ok-is_apart.number in
    coded arm (record { source = Default; value = code arm; rest = digits arm }) (code arm)
    (record { country = Default; national = number.national; prefix = None; extension = number.extension; carrier = number.carrier })
    (code_by_hint-kept c.in-Some.territory.now (digits arm) (decimal (code arm)) (code arm) c.country_code-code.ensures refl (sym c.if-is_apart.false ∙ apart_is arm))
    refl (record { country = refl; national = refl; prefix = refl; extension = refl; carrier = refl })

-- a territory's code is never refused
some_told : {T : Type 0} (o : Option (Bor Metadata)) (m : Bor Metadata) (digits : List ℕ) (r : Result T ParseError) → o ≡ Some m →
    IfErr (option_map_or (λ m. Ok (code_by_hint m digits)) (option_copied o) (Err InvalidCountryCode)) (λ e. r ≡ Err e)
some_told o m digits r is = subst (λ o. IfErr (option_map_or (λ m. Ok (code_by_hint m digits)) (option_copied o) (Err InvalidCountryCode)) (λ e. r ≡ Err e)) (sym is) tt

not_none : (o : Option (Bor Metadata)) (m : Bor Metadata) → o ≡ Some m → ¬ (option_copied o ≡ None)
not_none o m is none = let same : Some m.now ≡ None = ap option_copied (sym is) ∙ none in cc

pub returns-in_default-clause-at_once : goal.returns-in_default-clause-at_once
returns-in_default-clause-at_once c = record {
  refusals = search rules;
  no_other = λ none. search rules;
}

pub returns-in_err-is_apart-clause-at_once : goal.returns-in_err-is_apart-clause-at_once
returns-in_err-is_apart-clause-at_once c = record {
  refusals = some_told _ _ (cow_str_bytes c.args.number.national) _ c.in-Some.is;
  no_other = λ none. absurd (not_none _ _ c.in-Some.is none);
}

pub returns-then-is_apart-clause-at_once : goal.returns-then-is_apart-clause-at_once
returns-then-is_apart-clause-at_once c = record {
  refusals = some_told _ _ (cow_str_bytes c.args.number.national) _ c.in-Some.is;
  no_other = λ none. tt;
}

pub returns-clause-at_once : goal.returns-clause-at_once
returns-clause-at_once c = record {
  refusals = some_told _ _ (cow_str_bytes c.args.number.national) _ c.in-Some.is;
  no_other = λ none. tt;
}

pub returns-clause-lent : goal.returns-clause-lent
returns-clause-lent c lent = record {
  kept = record {
    national = λ same. search rules;
    prefix = λ none other. absurd (other refl);
    carrier = search rules;
  };
  has_prefix = λ other. absurd (other refl);
}
