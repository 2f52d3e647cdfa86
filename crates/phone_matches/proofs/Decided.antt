-- Whether a piece of a text is a number is decided.
use Rattle.std.proofs.Common.{◌≡◌, ◌⊎◌, inl, inr, ℕ, ◌==◌, Bool, true, false, List, [], ◌∷◌, Option, None, Some, Result, Ok, Err, refl, ap, ap₂, sym, subst, ◌∙◌, true≢false, eqb-true, eq-eqb, unwrap_or}
use Rattle.std.specs.List.{AllByRecursion}
use Rattle.phone_matches.specs.declared.groupings.Strictness.{Strictness}
use Rattle.phone_matches.specs.declared.groupings.Strictness.TheVariants.{Exact, Strict}
use Rattle.phone_library.specs.Facts.{is_valid_number}
use Rattle.phone_library.specs.Readings.{ReadsByLibrary}
use Rattle.phone_matches.proofs.Same.{AreSame, same_if_read, same_region}
use Rattle.phone_matches.proofs.Sufficing.{exact_of, possible_of, strict_of, valid_of}
use Rattle.phone_matches.proofs.Told.{OneReading, not_read, same_number}
use Rattle.phone_matches.specs.Leniencies
use Rattle.phone_matches.specs.Leniencies.{IsValidIn, Suffices, is_grouped_well, is_possible}
use Rattle.phone_matches.specs.Marks.{HasGoodMarks, IsGood, IsSameNumber, announced, main_region}
use Rattle.phone_matches.specs.Numbers.{IsNumberBy, may_be_number}
use Rattle.phone_matches.specs.Prefixes.{has_prefix}
use Rattle.phone_matches.specs.declared.leniency.Leniency.{Leniency}
use Rattle.phone_matches.specs.declared.leniency.Leniency.TheVariants.{ExactGrouping, Possible, StrictGrouping, Valid}
use Rattle.phone_questions.specs.Letters.{digits_only}
use Rattle.phone_records.specs.declared.loader.Metadata.{Metadata}
use Rattle.phone_values.specs.Numbers.{National}
use Rattle.phone_values.specs.declared.country.Id.{Id}
use Rattle.phone_values.specs.declared.error.ParseError.{ParseError}
use Rattle.phone_values.specs.declared.reading.Reading.{Reading}

-- it is so, or it isn't
abbrev pub Known : Type 0 → Type 0
Known P = P ⊎ (¬ P)

known_both : {P Q : Type 0} → Known P → Known Q → Known (P × Q)
known_both (inl p) (inl q) = inl (p, q)
known_both (inl p) (inr none) = inr (λ h. none h.1)
known_both (inr none) q = inr (λ h. none h.0)

known_three : {P Q R : Type 0} → Known P → Known Q → Known R → Known (P × Q × R)
known_three (inl p) (inl q) (inl r) = inl (p, q, r)
known_three (inl p) (inl q) (inr none) = inr (λ h. none h.2)
known_three (inl p) (inr none) r = inr (λ h. none h.1)
known_three (inr none) q r = inr (λ h. none h.0)

known_true : (b : Bool) → Known (b ≡ true)
known_true true = inl refl
known_true false = inr (λ e. true≢false (sym e))

known_number : (m n : ℕ) → Known (m ≡ n)
known_number m n = by_test (m == n) refl
  where
    by_test : (b : Bool) → (m == n) ≡ b → Known (m ≡ n)
    by_test true e = inl (eqb-true m n e)
    by_test false e = inr (λ same. true≢false (sym (eq-eqb m n same) ∙ e))

known_text : (t u : List ℕ) → Known (t ≡ u)
known_text [] [] = inl refl
known_text [] (d ∷ ds) = inr (λ e. cc)
known_text (c ∷ cs) [] = inr (λ e. cc)
known_text (c ∷ cs) (d ∷ ds) = by_parts (known_both (known_number c d) (known_text cs ds))
  where
    by_parts : Known ((c ≡ d) × (cs ≡ ds)) → Known (c ∷ cs ≡ d ∷ ds)
    by_parts (inl (e, f)) = inl (rw (e, f) refl)
    by_parts (inr none) = inr (λ e. none (let head : c ≡ d = cc in let tail : cs ≡ ds = cc in (head, tail)))

known_option : (a b : Option (List ℕ)) → Known (a ≡ b)
known_option None None = inl refl
known_option None (Some u) = inr (λ e. cc)
known_option (Some t) None = inr (λ e. cc)
known_option (Some t) (Some u) = by_text (known_text t u)
  where
    by_text : Known (t ≡ u) → Known (Some t ≡ Some u)
    by_text (inl e) = inl (ap (λ (v : List ℕ). Some v) e)
    by_text (inr none) = inr (λ e. none (let same : t ≡ u = cc in same))

known_all : {X : Type 0} (P : X → Type 0) → ((x : X) → Known (P x)) → (xs : List X) → Known (AllByRecursion P xs)
known_all P known [] = inl tt
known_all P known (x ∷ xs) = known_both (known x) (known_all P known xs)

known_national : (m n : National) → Known (m ≡ n)
known_national m n = by_parts (known_both (known_number m.zeros n.zeros) (known_number m.value n.value))
  where
    by_parts : Known ((m.zeros ≡ n.zeros) × (m.value ≡ n.value)) → Known (m ≡ n)
    by_parts (inl (z, v)) = inl (let made : ℕ → ℕ → National = λ a b. record { zeros = a; value = b } in ap₂ made z v)
    by_parts (inr none) = inr (λ e. none (ap (λ (k : National). k.zeros) e, ap (λ (k : National). k.value) e))

-- each text has a reading
abbrev pub SomeReading : Type 0
SomeReading = (db : List Metadata) (hint : Option Id) (text : List ℕ) → (r : Result Reading ParseError) × ReadsByLibrary db hint text r

module _ (one : OneReading) (there : SomeReading) (db : List Metadata) where
  known_same : (n : Reading) (t : List ℕ) → Known (IsSameNumber db n t)
  known_same n t = by_region (main_region db n.code.value) refl
    where
      by_same : (region : Id) → main_region db n.code.value ≡ Some region → (k : Reading) → ReadsByLibrary db (Some region) t (Ok k) →
          Known (AreSame k n) → Known (IsSameNumber db n t)
      by_same region main k reads (inl same) =
          inl ((same_if_read one db n t n.code.value refl region main k reads true ((λ yes. same), (λ h. refl))).0 refl)
      by_same region main k reads (inr none) =
          inr (λ s. true≢false (sym ((same_if_read one db n t n.code.value refl region main k reads false ((λ yes. absurd (true≢false (sym yes))), (λ h. absurd (none h)))).1 s)))

      by_reading : (region : Id) → main_region db n.code.value ≡ Some region → (r : Result Reading ParseError) → ReadsByLibrary db (Some region) t r →
          Known (IsSameNumber db n t)
      by_reading region main (Ok k) reads =
          by_same region main k reads
          (known_three (known_number k.code.value n.code.value) (known_national k.national n.national) (known_option k.extension n.extension))
      by_reading region main (Err e) reads =
          inr (λ s.
          let region_same = same_region s.region region (main_region db n.code.value) s.main main in
          not_read one db (Some region) t e s.number reads (subst (λ (r : Id). ReadsByLibrary db (Some r) t (Ok s.number)) region_same s.read))

      by_region : (o : Option Id) → main_region db n.code.value ≡ o → Known (IsSameNumber db n t)
      by_region None e = inr (λ s. let bad : None ≡ Some s.region = sym e ∙ s.main in cc)
      by_region (Some region) e = let r = there db (Some region) t in by_reading region e r.0 r.1

  known_good : (n : Reading) (m : Bool × List ℕ) → Known (IsGood db n m.0 m.1)
  known_good n (true, t) = known_same n t
  known_good n (false, t) = known_text (digits_only t) (unwrap_or n.extension [])

  known_marks : (n : Reading) (t : List ℕ) → Known (HasGoodMarks db n t)
  known_marks n t = known_all (λ (m : Bool × List ℕ). IsGood db n m.0 m.1) (known_good n) (announced t)

  known_valid : (n : Reading) (t : List ℕ) → Known (IsValidIn db n t)
  known_valid n t = by_parts (known_both (known_true (is_valid_number db n)) (known_both (known_marks n t) (known_true (has_prefix db n t))))
    where
      by_parts : Known ((is_valid_number db n ≡ true) × (HasGoodMarks db n t × (has_prefix db n t ≡ true))) → Known (IsValidIn db n t)
      by_parts (inl (v, (m, p))) = inl (record { valid = v; marks = m; prefix = p })
      by_parts (inr none) = inr (λ h. none (h.valid, (h.marks, h.prefix)))

  module _ (alternates : List Metadata) where
    known_grouped : (s : Strictness) (n : Reading) (t : List ℕ) → Known (IsValidIn db n t × (is_grouped_well db alternates s n t ≡ true))
    known_grouped s n t = known_both (known_valid n t) (known_true (is_grouped_well db alternates s n t))

    known_enough : (n : Reading) (t : List ℕ) (l : Leniency) → Known (Suffices db alternates n t l)
    known_enough n t Possible = by_possible (known_true (is_possible db n))
      where
        by_possible : Known (is_possible db n ≡ true) → Known (Suffices db alternates n t Possible)
        by_possible (inl h) = inl (Leniencies.possible h)
        by_possible (inr none) = inr (λ s. none (possible_of db n t alternates s))
    known_enough n t Valid = by_valid (known_valid n t)
      where
        by_valid : Known (IsValidIn db n t) → Known (Suffices db alternates n t Valid)
        by_valid (inl h) = inl (Leniencies.valid h)
        by_valid (inr none) = inr (λ s. none (valid_of db n t alternates s))
    known_enough n t StrictGrouping = by_strict (known_grouped Strict n t)
      where
        by_strict : Known (IsValidIn db n t × (is_grouped_well db alternates Strict n t ≡ true)) → Known (Suffices db alternates n t StrictGrouping)
        by_strict (inl (v, g)) = inl (Leniencies.strict v g)
        by_strict (inr none) = inr (λ s. none (strict_of db n t alternates s))
    known_enough n t ExactGrouping = by_exact (known_grouped Exact n t)
      where
        by_exact : Known (IsValidIn db n t × (is_grouped_well db alternates Exact n t ≡ true)) → Known (Suffices db alternates n t ExactGrouping)
        by_exact (inl (v, g)) = inl (Leniencies.exact v g)
        by_exact (inr none) = inr (λ s. none (exact_of db n t alternates s))

    -- a piece is a number, or it is none
    abbrev pub IsTold : Option Id → Leniency → (before piece after : List ℕ) → Type 0
    IsTold hint l before piece after =
        ((n : Reading) × IsNumberBy db alternates hint l before piece after n) ⊎ ((n : Reading) → ¬ (IsNumberBy db alternates hint l before piece after n))

    module _ (hint : Option Id) (l : Leniency) (before piece after : List ℕ) where
      told_enough : may_be_number l before piece after ≡ true → (n : Reading) → ReadsByLibrary db hint piece (Ok n) → Known (Suffices db alternates n piece l) →
          IsTold hint l before piece after
      told_enough may n reads (inl h) = inl (n, record { candidate = may; number = record { read = reads; enough = h } })
      told_enough may n reads (inr none) =
          inr (λ m at. none (subst (λ (k : Reading). Suffices db alternates k piece l) (same_number one db hint piece m n at.number.read reads) at.number.enough))

      told_reading : may_be_number l before piece after ≡ true → (r : Result Reading ParseError) → ReadsByLibrary db hint piece r →
          IsTold hint l before piece after
      told_reading may (Ok n) reads = told_enough may n reads (known_enough n piece l)
      told_reading may (Err e) reads = inr (λ m at. not_read one db hint piece e m reads at.number.read)

      told_candidate : Known (may_be_number l before piece after ≡ true) → IsTold hint l before piece after
      told_candidate (inl may) = let r = there db hint piece in told_reading may r.0 r.1
      told_candidate (inr none) = inr (λ m at. none at.candidate)

    pub known_piece : (hint : Option Id) (l : Leniency) (before piece after : List ℕ) → IsTold hint l before piece after
    known_piece hint l before piece after = told_candidate hint l before piece after (known_true (may_be_number l before piece after))
