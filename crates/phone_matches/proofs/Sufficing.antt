-- When a number suffices.
use Rattle.std.proofs.Common.{◌≡◌, ◌↔◌, ℕ, Bool, true, false, IsTrue, List, Result, Ok, Err, IfOk, sym, subst, ◌∙◌}
use Rattle.phone_matches.specs.declared.groupings.Strictness.TheVariants.{Exact, Strict}
use Rattle.phone_library.specs.Facts.{is_valid_number}
use Rattle.phone_matches.proofs.Same.{not_true}
use Rattle.phone_matches.specs.Leniencies
use Rattle.phone_matches.specs.Leniencies.{IsValidIn, Suffices, is_grouped_well, is_possible}
use Rattle.phone_matches.specs.Marks.{HasGoodMarks}
use Rattle.phone_matches.specs.Prefixes.{has_prefix}
use Rattle.phone_matches.specs.declared.leniency.Leniency.{Leniency}
use Rattle.phone_matches.specs.declared.leniency.Leniency.TheVariants.{ExactGrouping, Possible, StrictGrouping, Valid}
use Rattle.phone_records.specs.declared.loader.Metadata.{Metadata}
use Rattle.phone_values.specs.declared.reading.Reading.{Reading}

module _ (db : List Metadata) (n : Reading) (t : List ℕ) where
  pub bad_marks : ¬ (HasGoodMarks db n t) → IsTrue false ↔ IsValidIn db n t
  bad_marks none = not_true (IsValidIn db n t) (λ s. none s.marks)

  pub if_valid : {E : Type 0} → is_valid_number db n ≡ true → HasGoodMarks db n t → (r : Result Bool E) → IfOk r (λ b. b ≡ has_prefix db n t) →
      IfOk r (λ b. IsTrue b ↔ IsValidIn db n t)
  if_valid valid marks (Ok b) e = (λ yes. record { valid = valid; marks = marks; prefix = sym e ∙ yes }, λ s. e ∙ s.prefix)
  if_valid valid marks (Err f) e = e

  module _ (alternates : List Metadata) where
    pub possible_of : Suffices db alternates n t Possible → is_possible db n ≡ true
    possible_of (Leniencies.possible h) = h

    pub valid_of : Suffices db alternates n t Valid → IsValidIn db n t
    valid_of (Leniencies.valid h) = h

    pub strict_of : Suffices db alternates n t StrictGrouping → IsValidIn db n t × (is_grouped_well db alternates Strict n t ≡ true)
    strict_of (Leniencies.strict v g) = (v, g)

    pub exact_of : Suffices db alternates n t ExactGrouping → IsValidIn db n t × (is_grouped_well db alternates Exact n t ≡ true)
    exact_of (Leniencies.exact v g) = (v, g)

    pub if_possible : (l : Leniency) → l ≡ Possible → (b : Bool) → b ≡ is_possible db n → IsTrue b ↔ Suffices db alternates n t l
    if_possible l is b e =
        subst (λ (k : Leniency). IsTrue b ↔ Suffices db alternates n t k) (sym is) (λ yes. Leniencies.possible (sym e ∙ yes), λ s. e ∙ possible_of s)

    pub if_valid_in : {E : Type 0} (l : Leniency) → l ≡ Valid → (r : Result Bool E) → IfOk r (λ b. IsTrue b ↔ IsValidIn db n t) →
        IfOk r (λ b. IsTrue b ↔ Suffices db alternates n t l)
    if_valid_in l is (Ok b) e =
        subst (λ (k : Leniency). IsTrue b ↔ Suffices db alternates n t k) (sym is) (λ yes. Leniencies.valid (e.0 yes), λ s. e.1 (valid_of s))
    if_valid_in l is (Err f) e = e

    pub if_strict : {E : Type 0} (l : Leniency) → l ≡ StrictGrouping → (r : Result Bool E) →
        IfOk r (λ b. IsTrue b ↔ (IsValidIn db n t × (is_grouped_well db alternates Strict n t ≡ true))) → IfOk r (λ b. IsTrue b ↔ Suffices db alternates n t l)
    if_strict l is (Ok b) e =
        subst (λ (k : Leniency). IsTrue b ↔ Suffices db alternates n t k) (sym is)
        (λ yes. Leniencies.strict (e.0 yes).0 (e.0 yes).1, λ s. e.1 (strict_of s))
    if_strict l is (Err f) e = e

    pub if_exact : {E : Type 0} (l : Leniency) → l ≡ ExactGrouping → (r : Result Bool E) →
        IfOk r (λ b. IsTrue b ↔ (IsValidIn db n t × (is_grouped_well db alternates Exact n t ≡ true))) → IfOk r (λ b. IsTrue b ↔ Suffices db alternates n t l)
    if_exact l is (Ok b) e =
        subst (λ (k : Leniency). IsTrue b ↔ Suffices db alternates n t k) (sym is)
        (λ yes. Leniencies.exact (e.0 yes).0 (e.0 yes).1, λ s. e.1 (exact_of s))
    if_exact l is (Err f) e = e

    -- what is grouped as is asked is valid there
    pub strict_valid : Suffices db alternates n t StrictGrouping → Suffices db alternates n t Valid
    strict_valid s = Leniencies.valid (strict_of s).0

    pub exact_valid : Suffices db alternates n t ExactGrouping → Suffices db alternates n t Valid
    exact_valid s = Leniencies.valid (exact_of s).0

-- with a number that is valid in its text, and whether it is grouped there
pub if_grouped : {E : Type 0} (V : Type 0) (g : Bool) → V → (r : Result Bool E) → IfOk r (λ b. b ≡ g) → IfOk r (λ b. IsTrue b ↔ (V × (g ≡ true)))
if_grouped V g v (Ok b) e = (λ yes. (v, sym e ∙ yes), λ h. e ∙ h.1)
if_grouped V g v (Err f) e = e

pub not_both : (V W : Type 0) → ¬ V → IsTrue false ↔ (V × W)
not_both V W none = not_true (V × W) (λ h. none h.0)
