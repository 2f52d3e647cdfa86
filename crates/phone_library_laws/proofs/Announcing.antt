-- What announces an extension in printed texts.
use Rattle.std.proofs.Common.{◌≡◌, ℕ, ◌≤◌, ◌==◌, Bool, true, false, List, [], ◌∷◌, ◌++◌, codes}
use Rattle.std.proofs.Common.{None, refl, ap, ◌∙◌, arith, eqb-true}
use Rattle.std.proofs.Common.{true≢false, sym}
use Rattle.std.proofs.lemmas.Bool.{false_from_ne_true, or_from, or_parts}
use Rattle.std.specs.List.{list_any}
use Rattle.ucd_case.proofs.Computing.{ucd_case}
use Rattle.phone_chars.specs.Characters.{is_one_of}
use Rattle.phone_parts.proofs.Endings.{member_passes}
use Rattle.phone_parts.proofs.PrintedTexts.{is_slash}
use Rattle.phone_library_text.specs.Announcements.{Announces, by_parameter, by_word}
use Rattle.phone_library_text.specs.NumberTexts.{before_place, context_name, without_subaddress}
use Rattle.phone_library_text.specs.Places.{parted}
use Rattle.phone_library_text.proofs.Partings.{behind, parted-none, parted-passed, shifted}

-- ` ext. ` and `;ext=` announce up to twenty digits
pub ext_announces : (n : ℕ) → n ≤ 20 → Announces (codes " ext. ") n false
unfolding ucd_case
ext_announces n few = by_word (record {
  lead = 32 ∷ [];
  label = codes "ext";
  mark = 46 ∷ [];
  gap = 32 ∷ [];
  whole = refl;
  leads = refl;
  labels = refl;
  marks = record { only = refl; few = omega arith };
  gaps = refl;
}) few

pub parameter_announces : (n : ℕ) → n ≤ 20 → Announces (codes ";ext=") n false
unfolding ucd_case
parameter_announces n few = by_parameter refl few refl

-- neither a context nor a subaddress begins where an extension's parameter does
abbrev is_semicolon : ℕ → Bool
is_semicolon c = c == 59

pub parameter_no_context : (front e : List ℕ) → list_any is_semicolon front ≡ false →
    list_any is_semicolon e ≡ false →
    parted context_name (front ++ (codes ";ext=" ++ e)) ≡ None
parameter_no_context front e before after =
    parted-passed 59 (codes "phone-context=") front (codes ";ext=" ++ e) before
    ∙ ap (behind front) (ap (shifted 59)
    (parted-none 59 (codes "phone-context=") (codes "ext=" ++ e) after))

pub parameter_no_subaddress : (front e : List ℕ) → list_any is_semicolon front ≡ false →
    list_any is_semicolon e ≡ false →
    without_subaddress (front ++ (codes ";ext=" ++ e)) ≡ front ++ (codes ";ext=" ++ e)
parameter_no_subaddress front e before after =
    ap (λ p. before_place p (front ++ (codes ";ext=" ++ e)))
    (parted-passed 59 (codes "isub=") front (codes ";ext=" ++ e) before
    ∙ ap (behind front) (ap (shifted 59)
    (parted-none 59 (codes "isub=") (codes "ext=" ++ e) after)))

-- a text without slashes and semicolons
abbrev is_marked : ℕ → Bool
is_marked c = is_one_of (47 ∷ 59 ∷ 92 ∷ []) c

none_narrower : (p q : ℕ → Bool) → ((c : ℕ) → q c ≡ true → p c ≡ true) → (t : List ℕ) →
    list_any p t ≡ false → list_any q t ≡ false
none_narrower p q wider [] none = refl
none_narrower p q wider (c ∷ cs) none =
    let parts = or_parts (p c) (list_any p cs) none in
    or_from _ _ (false_from_ne_true (q c) (λ h. true≢false (sym (wider c h) ∙ parts.0)))
    (none_narrower p q wider cs parts.1)

pub no_slash : (t : List ℕ) → list_any is_marked t ≡ false → list_any is_slash t ≡ false
no_slash t none = none_narrower is_marked is_slash
    (λ c h. member_passes is_marked (47 ∷ 92 ∷ []) c refl h) t none

pub no_semicolon : (t : List ℕ) → list_any is_marked t ≡ false → list_any is_semicolon t ≡ false
no_semicolon t none = none_narrower is_marked is_semicolon (λ c h. ap is_marked (eqb-true c 59 h)) t
    none
