-- What an extension begins with.
use Rattle.std.proofs.Common.{◌≡◌, ℕ, Bool, true, List, [], ◌∷◌, ◌++◌, length, codes, refl, ap, sym, subst, ◌∙◌, true≢false, arith}
use Rattle.std.proofs.lemmas.Bool.{and_parts}
use Rattle.std.specs.List.{list_all}
use Rattle.ucd_case.proofs.Computing.{ucd_case}
use Rattle.phone_chars.specs.Characters.{is_one_of}
use Rattle.phone_parts.specs.Suffixes.{IsAnnounced, IsIndicated, IsSuffix, is_lead, is_dash, is_suffix_start, suffix_starts, indicators}
use Rattle.phone_parts.specs.declared.suffix.Form.{Form}
use Rattle.phone_parts.specs.declared.suffix.Form.TheVariants.{Parameter, Indicated, NumberSign}
use Rattle.phone_parts.specs.Texts.{begins}
use Rattle.phone_parts.proofs.Endings.{member_passes}
use Rattle.phone_parts.proofs.Foldings.{any_like_begins, like_begins}

indicators_begin : list_all (begins is_suffix_start) indicators ≡ true
unfolding ucd_case
indicators_begin = refl

parameter_begins : begins is_suffix_start (codes ";ext=") ≡ true
unfolding ucd_case
parameter_begins = refl

leads_begin : list_all is_suffix_start (32 ∷ 0xA0 ∷ 9 ∷ 44 ∷ []) ≡ true
unfolding ucd_case
leads_begin = refl

dashes_begin : list_all is_suffix_start (45 ∷ 32 ∷ []) ≡ true
unfolding ucd_case
dashes_begin = refl

announced_begins : (w d : List ℕ) → IsAnnounced indicators w d → begins is_suffix_start w ≡ true
announced_begins w d h =
    ap (begins is_suffix_start) h.whole ∙ any_like_begins (is_one_of suffix_starts) h.word indicators h.ending h.announces indicators_begin

-- nothing is not announced
pub not_announced_nil : (d : List ℕ) → ¬ (IsAnnounced indicators [] d)
not_announced_nil d h = true≢false (sym (announced_begins [] d h))

run_start : (p : ℕ → Bool) (run rest : List ℕ) → ((c : ℕ) → p c ≡ true → is_suffix_start c ≡ true) → list_all p run ≡ true →
    (run ≡ [] → begins is_suffix_start rest ≡ true) → begins is_suffix_start (run ++ rest) ≡ true
run_start p [] rest members all h = h refl
run_start p (x ∷ run) rest members all h = members x (and_parts (p x) (list_all p run) all).0

-- an extension begins with one of its starts
pub suffix_begins : (w : List ℕ) (f : Form) (d : List ℕ) → IsSuffix w f d → begins is_suffix_start w ≡ true
suffix_begins w Parameter d h =
    ap (begins is_suffix_start) h.whole ∙ like_begins (is_one_of suffix_starts) h.name (codes ";ext=") d h.named parameter_begins
suffix_begins w Indicated d h =
    ap (begins is_suffix_start) h.whole
    ∙ run_start is_lead h.lead h.rest (λ c. member_passes is_suffix_start (32 ∷ 0xA0 ∷ 9 ∷ 44 ∷ []) c leads_begin) h.leads (λ _. announced_begins h.rest d h.announced)
suffix_begins w NumberSign d h =
    ap (begins is_suffix_start) h.whole
    ∙ run_start is_dash h.lead (d ++ 35 ∷ []) (λ c. member_passes is_suffix_start (45 ∷ 32 ∷ []) c dashes_begin) h.leads (λ e. absurd (omega (arith, h.some_lead, ap length e)))

-- what remains of an extension with an indicator after a part of its lead
pub indicated_rest : (w d : List ℕ) (c : ℕ) (rest : List ℕ) → IsIndicated w d → w ≡ c ∷ rest → ¬ (IsAnnounced indicators w d) →
    (is_lead c ≡ true) × IsIndicated rest d
indicated_rest w d c rest h e none = at h.lead h.whole h.leads
  where
    at : (lead : List ℕ) → w ≡ lead ++ h.rest → list_all is_lead lead ≡ true → (is_lead c ≡ true) × IsIndicated rest d
    at [] f all = absurd (none (subst (λ t. IsAnnounced indicators t d) (sym f) h.announced))
    at (x ∷ lead) f all =
        let parts = and_parts (is_lead x) (list_all is_lead lead) all in
        let same : x ≡ c = cc in
        let tails : rest ≡ lead ++ h.rest = cc in
        (subst (λ y. is_lead y ≡ true) same parts.0, record { lead = lead; rest = h.rest; whole = tails; leads = parts.1; announced = h.announced })

pub not_indicated_nil : (d : List ℕ) → ¬ (IsIndicated [] d)
not_indicated_nil d h = true≢false (sym (suffix_begins [] Indicated d h))

-- behind a lead of a text without an indicator there is none
pub not_indicated_after_lead : (rest after : List ℕ) (c : ℕ) → rest ≡ c ∷ after → is_lead c ≡ true → ((d : List ℕ) → ¬ (IsIndicated rest d)) →
    (d : List ℕ) → ¬ (IsIndicated after d)
not_indicated_after_lead rest after c e lead none d h =
    none d (record { lead = c ∷ h.lead; rest = h.rest; whole = e ∙ ap (λ t. c ∷ t) h.whole; leads = rw lead h.leads; announced = h.announced })
