-- A text is read in one way as free text.
use Rattle.std.proofs.Common.{◌≡◌, ⊎_elim, ℕ, ◌<◌, List, length, take, drop, Some, None, Result, Ok, refl, ap, sym, subst, ◌∙◌}
use Rattle.std.proofs.lemmas.Bool.{cases_order}
use Rattle.std.proofs.Math.Seq.{drop-append_seam, take-append_seam}
use Rattle.phone_parts.specs.Cores.{IsCore}
use Rattle.phone_parts.specs.Naturals
use Rattle.phone_parts.specs.Naturals.{IsNatural}
use Rattle.phone_parts.specs.Parts.{Parts}
use Rattle.phone_parts.specs.Suffixes.{IsSomeSuffix, HasNoSuffix, HasLongestSuffix}
use Rattle.phone_parts.specs.declared.natural.NoReading.{NoReading}
use Rattle.phone_parts.proofs.Cores.{core_unique}
use Rattle.phone_parts.proofs.OneForm.{suffix_same}

-- ---- the longest extension is one

-- what is longest is an end of the text
suffix_at : (c before d : List ℕ) → HasLongestSuffix c before d →
    IsSomeSuffix (drop (length before) c) d
suffix_at c before d h =
    subst (λ t. IsSomeSuffix t d)
    (sym (ap (drop (length before)) h.whole ∙ drop-append_seam before h.suffix)) h.is_suffix

-- a text with an extension is none without
longest_excludes_none : (c before d : List ℕ) → HasLongestSuffix c before d → ¬ (HasNoSuffix c)
longest_excludes_none c before d h none =
    let s = suffix_at c before d h in none (length before) s.0 d s.1

-- what stands before is of one length
longest_length : (c a b d e : List ℕ) → HasLongestSuffix c a d → HasLongestSuffix c b e →
    length a ≡ length b
longest_length c a b d e h k =
    let first = suffix_at c a d h in
    let second = suffix_at c b e k in
    ⊎_elim
    (λ same. same)
    (λ apart.
    ⊎_elim
    (λ (less : length a < length b). absurd (k.longest (length a) first.0 d less first.1))
    (λ (less : length b < length a). absurd (h.longest (length b) second.0 e less second.1))
    apart)
    (cases_order (length a) (length b))

-- what stands before is one, and the digits are
longest_same : (c a b d e : List ℕ) → HasLongestSuffix c a d → HasLongestSuffix c b e →
    (a ≡ b) × (d ≡ e)
longest_same c a b d e h k = (before, digits)
  where
    same : length a ≡ length b
    same = longest_length c a b d e h k

    before : a ≡ b
    before =
        sym (ap (take (length a)) h.whole ∙ take-append_seam a h.suffix) ∙ ap (λ n. take n c) same
        ∙ ap (take (length b)) k.whole ∙ take-append_seam b k.suffix

    digits : d ≡ e
    digits =
        let first = suffix_at c a d h in
        let second = subst (λ n. IsSomeSuffix (drop n c) e) (sym same) (suffix_at c b e k) in
        (suffix_same (drop (length a) c) first.0 second.0 d e first.1 second.1).1

-- ---- the reading is one

-- a core with an extension is none without
extended_not_plain : (t c n d other : List ℕ) → IsCore t c → HasLongestSuffix c n d →
    IsCore t other → ¬ (HasNoSuffix other)
extended_not_plain t c n d other core longest is_core none =
    let same = core_unique t other c is_core core in
    longest_excludes_none c n d longest (subst HasNoSuffix same none)

-- national part and digits of a core with an extension
extended_same : (t c n d c' n' d' : List ℕ) → IsCore t c → HasLongestSuffix c n d →
    IsCore t c' → HasLongestSuffix c' n' d' → (n ≡ n') × (d ≡ d')
extended_same t c n d c' n' d' core longest core' longest' =
    longest_same c n n' d d' longest
    (subst (λ s. HasLongestSuffix s n' d') (core_unique t c' c core' core) longest')

-- a reading with an extension
parted : List ℕ → List ℕ → Result Parts NoReading
parted n d = Ok (record { national = n; prefix = None; extension = Some d })

-- a text is read in at most one way as free text
pub natural_unique : (text : List ℕ) (a b : Result Parts NoReading) → IsNatural text a → IsNatural text b → a ≡ b
unfolding parted
natural_unique t a b (Naturals.nothing g) (Naturals.nothing h) = refl
natural_unique t a b (Naturals.nothing g) (Naturals.extended c n d core longest) = absurd (g c core)
natural_unique t a b (Naturals.nothing g) (Naturals.plain c core none) = absurd (g c core)
natural_unique t a b (Naturals.extended c n d core longest) (Naturals.nothing h) = absurd (h c core)
natural_unique t a b (Naturals.extended c n d core long) (Naturals.extended c' n' d' core' long') =
    let same = extended_same t c n d c' n' d' core long core' long' in
    ap (λ s. parted s d) same.0 ∙ ap (parted n') same.1
natural_unique t a b (Naturals.extended c n d core longest) (Naturals.plain c' core' none) =
    absurd (extended_not_plain t c n d c' core longest core' none)
natural_unique t a b (Naturals.plain c core none) (Naturals.nothing h) = absurd (h c core)
natural_unique t a b (Naturals.plain c core none) (Naturals.extended c' n' d' core' longest') =
    absurd (extended_not_plain t c' n' d' c core' longest' core none)
natural_unique t a b (Naturals.plain c core none) (Naturals.plain c' core' none') =
    ap (λ s. Ok (record { national = s; prefix = None; extension = None }))
    (core_unique t c c' core core')
