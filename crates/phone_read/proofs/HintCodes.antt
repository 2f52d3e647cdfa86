-- The calling code by the hint, case by case.
use Rattle.std.proofs.Common.{◌≡◌, ℕ, Bool, refl, ◌&&◌, not, true, false, List, ◌++◌, length, drop, Some, unwrap_or, ap, ap₂, sym, ◌∙◌}
use Rattle.std.proofs.Math.Seq.{drop-append_seam}
use Rattle.std.proofs.lemmas.Bool.{and_from, cond-true, cond-false}
use Rattle.std.specs.Fmt.{decimal}
use Rattle.phone_values.specs.declared.country.Source.TheVariants.{Number, Default}
use Rattle.phone_records.specs.declared.loader.Metadata.{Metadata}
use Rattle.phone_territory.specs.Records.{code_of}
use Rattle.phone_read.specs.Hints.{code_by_hint, looks_national}
use Rattle.phone_parts.specs.Texts.{is_front}
use Rattle.phone_parts.proofs.Prefixes.{is_front-append, is_front-no}

and_not : (a b : Bool) → b ≡ true → (a && not b) ≡ false
and_not true b h = ap not h
and_not false b h = refl

module _ (m : Metadata) (digits text : List ℕ) (code : ℕ) (given : m.country_code ≡ Some code) (is_text : text ≡ decimal code) where
  is_code : code_of m ≡ code
  is_code = ap (λ c. unwrap_or c 0) given

  written : decimal (code_of m) ≡ text
  written = ap decimal is_code ∙ sym is_text

  -- they begin with the code, and do not look so
  pub code_by_hint-cut : (rest : List ℕ) → digits ≡ text ++ rest → looks_national m digits ≡ false →
      code_by_hint m digits ≡ record { source = Number; value = code; rest = rest }
  code_by_hint-cut rest whole looks =
      let front : is_front (decimal (code_of m)) digits ≡ true = rw (is_code, ← is_text, whole) (is_front-append text rest) in
      let after : drop (length (decimal (code_of m))) digits ≡ rest = rw (is_code, ← is_text, whole) (drop-append_seam text rest) in
      cond-true _ _ _ (and_from _ _ front (ap not looks)) ∙ rw (after, is_code)

  -- they look so
  pub code_by_hint-looks : looks_national m digits ≡ true → code_by_hint m digits ≡ record { source = Default; value = code; rest = digits }
  code_by_hint-looks looks =
      cond-false _ _ _ (and_not (is_front (decimal (code_of m)) digits) _ looks) ∙ rw is_code

  -- they do not begin with the code
  pub code_by_hint-other : ((rest : List ℕ) → ¬ (digits ≡ text ++ rest)) → code_by_hint m digits ≡ record { source = Default; value = code; rest = digits }
  code_by_hint-other other =
      let front : is_front (decimal (code_of m)) digits ≡ false = rw (is_code, ← is_text) (is_front-no text digits other) in
      cond-false _ _ _ (ap (λ b. b && not (looks_national m digits)) front) ∙ rw is_code

  -- the same by one test: the code is cut off or not
  pub code_by_hint-apart : true ≡ (is_front text digits && not (looks_national m digits)) →
      code_by_hint m digits ≡ record { source = Number; value = code; rest = drop (length text) digits }
  code_by_hint-apart h =
      cond-true _ _ _ (ap (λ t. is_front t digits && not (looks_national m digits)) written ∙ sym h)
      ∙ ap₂ (λ v t. record { source = Number; value = v; rest = drop (length t) digits }) is_code written

  pub code_by_hint-kept : false ≡ (is_front text digits && not (looks_national m digits)) →
      code_by_hint m digits ≡ record { source = Default; value = code; rest = digits }
  code_by_hint-kept h =
      cond-false _ _ _ (ap (λ t. is_front t digits && not (looks_national m digits)) written ∙ sym h)
      ∙ ap (λ v. record { source = Default; value = v; rest = digits }) is_code
