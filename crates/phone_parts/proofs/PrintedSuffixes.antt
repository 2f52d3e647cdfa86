-- The longest extension of a text whose part before it has no character that an indicator begins with.
use Rattle.std.proofs.Common.{◌≡◌, ℕ, ◌<◌, Bool, true, false, not, zero, suc, List, [], ◌∷◌, ◌++◌, length, drop, refl, ap, sym, subst, ◌∙◌, true≢false, arith}
use Rattle.std.proofs.lemmas.Bool.{and_parts, or_parts, or_right, not-true}
use Rattle.std.proofs.lemmas.List.Folds.{list_any-append}
use Rattle.std.specs.List.{list_any, list_all}
use Rattle.phone_parts.specs.Suffixes.{IsSuffix, HasLongestSuffix, is_lead, is_sign}
use Rattle.phone_parts.specs.declared.suffix.Form.{Form}
use Rattle.phone_parts.specs.declared.suffix.Form.TheVariants.{Parameter, Indicated, NumberSign}
use Rattle.phone_parts.specs.Texts.{begins, ends}
use Rattle.phone_parts.proofs.Openings.{is_opening, announced_opens, parameter_opens}

none_begins : (p q : ℕ → Bool) (a b : List ℕ) → list_any p a ≡ false → ends q a ≡ true → begins p (a ++ b) ≡ false
none_begins p q [] b none last = absurd (true≢false (sym last))
none_begins p q (x ∷ a) b none last = (or_parts (p x) (list_any p a) none).0

-- a lead and an indicator don't begin in a text without what an indicator begins with, unless all behind is lead
no_lead_before : (lead rest before suffix : List ℕ) → before ++ suffix ≡ lead ++ rest → list_all is_lead lead ≡ true → begins is_opening rest ≡ true →
    list_any is_opening before ≡ false → ¬ (ends (λ c. not (is_lead c)) before ≡ true)
no_lead_before lead rest [] suffix e leads opens none last = true≢false (sym last)
no_lead_before [] rest (x ∷ before) suffix e leads opens none last =
    true≢false (sym opens ∙ ap (begins is_opening) (sym e) ∙ (or_parts (is_opening x) (list_any is_opening before) none).0)
no_lead_before (l ∷ lead) rest (x ∷ []) suffix e leads opens none last =
    let same : x ≡ l = cc in
    true≢false (sym (and_parts (is_lead l) (list_all is_lead lead) leads).0 ∙ ap is_lead (sym same) ∙ not-true (is_lead x) last)
no_lead_before (l ∷ lead) rest (x ∷ y ∷ before) suffix e leads opens none last =
    let tails : (y ∷ before) ++ suffix ≡ lead ++ rest = cc in
    no_lead_before lead rest (y ∷ before) suffix tails (and_parts (is_lead l) (list_all is_lead lead) leads).1 opens
    (or_parts (is_opening x) (list_any is_opening (y ∷ before)) none).1 last

-- no extension is a text that has no number sign, and before an end of it neither what an indicator begins with nor a lead
not_suffix : (before suffix : List ℕ) → list_any is_opening before ≡ false → ends (λ c. not (is_lead c)) before ≡ true →
    list_any is_sign (before ++ suffix) ≡ false → (f : Form) (d : List ℕ) → ¬ (IsSuffix (before ++ suffix) f d)
not_suffix before suffix none last no_sign Parameter d h =
    true≢false (sym (parameter_opens (before ++ suffix) d h) ∙ none_begins is_opening (λ c. not (is_lead c)) before suffix none last)
not_suffix before suffix none last no_sign Indicated d h =
    no_lead_before h.lead h.rest before suffix h.whole h.leads (announced_opens h.rest d h.announced) none last
not_suffix before suffix none last no_sign NumberSign d h =
    let sign : list_any is_sign (h.lead ++ (d ++ 35 ∷ [])) ≡ true =
    list_any-append is_sign h.lead (d ++ 35 ∷ []) ∙ or_right _ _ (list_any-append is_sign d (35 ∷ []) ∙ or_right _ _ refl) in
    true≢false (sym sign ∙ ap (list_any is_sign) (sym h.whole) ∙ no_sign)

-- nor does one begin before that end
no_longer : (before suffix : List ℕ) → list_any is_opening before ≡ false → ends (λ c. not (is_lead c)) before ≡ true →
    list_any is_sign (before ++ suffix) ≡ false → (k : ℕ) (f : Form) (d : List ℕ) → k < length before → ¬ (IsSuffix (drop k (before ++ suffix)) f d)
no_longer [] suffix none last no_sign k f d less = absurd (omega (arith, less))
no_longer (x ∷ before) suffix none last no_sign zero f d less = not_suffix (x ∷ before) suffix none last no_sign f d
no_longer (x ∷ []) suffix none last no_sign (suc k) f d less = absurd (omega (arith, less))
no_longer (x ∷ y ∷ before) suffix none last no_sign (suc k) f d less =
    no_longer (y ∷ before) suffix (or_parts (is_opening x) (list_any is_opening (y ∷ before)) none).1 last
    (or_parts (is_sign x) (list_any is_sign ((y ∷ before) ++ suffix)) no_sign).1 k f d (omega (arith, less))

-- so an extension behind such a text is the longest
pub longest_behind : (text before suffix : List ℕ) (f : Form) (d : List ℕ) → text ≡ before ++ suffix → list_any is_opening before ≡ false →
    ends (λ c. not (is_lead c)) before ≡ true → list_any is_sign text ≡ false → IsSuffix suffix f d → HasLongestSuffix text before d
longest_behind text before suffix f d whole none last no_sign h = record {
  suffix = suffix;
  whole = whole;
  is_suffix = (f, h);
  longest = λ k g e less s. no_longer before suffix none last (ap (list_any is_sign) (sym whole) ∙ no_sign) k g e less (subst (λ t. IsSuffix (drop k t) g e) whole s);
}
