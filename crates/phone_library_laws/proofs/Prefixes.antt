-- The prefixes that extensions are printed with announce them.
use Rattle.std.proofs.Common.{◌≡◌, inl, inr, ℕ, ◌≤◌, ◌&&◌, Bool, true, false, not, List, [], ◌∷◌}
use Rattle.std.proofs.Common.{◌++◌, codes, length, chars, Option, None, Some, refl, ap, sym, subst}
use Rattle.std.proofs.Common.{◌∙◌, arith, true≢false}
use Rattle.std.proofs.lemmas.Bool.{and_parts, not-true, or_cases}
use Rattle.std.proofs.lemmas.Slice.Eq.{bytes_eq-Decides}
use Rattle.std.specs.List.{list_all, list_any}
use Rattle.std.specs.Str.{bytes_eq}
use Rattle.ucd_case.proofs.Computing.{ucd_case}
use Rattle.phone_chars.specs.Characters.{is_one_of}
use Rattle.phone_parts.specs.Suffixes.{IsOptional, is_gap, is_lead, is_mark}
use Rattle.phone_library_text.specs.Announcements.{Announces, by_sign, by_word, is_word_of, signs}
use Rattle.phone_records.specs.declared.loader.Metadata.{Metadata}
use Rattle.phonenumber.proofs.BackTexts.{IsUtf8-low, chars-low, is_low}
use Rattle.phone_library_laws.specs.Announced.{IsAnnounced, IsAnnouncedIfAny, IsDigits}
use Rattle.phone_library_laws.specs.Announced.{IsParameterIfAny, prefix_of, sign_prefixes}
use Rattle.phone_library_laws.specs.Announced.{word_prefixes}
use Rattle.phone_library_laws.proofs.Announcing.{ext_announces}

-- what holds of each of some texts holds of what is one of them
abbrev AllOf : (List ℕ → Type 0) → List (List ℕ) → Type 0
AllOf P [] = Unit {0}
AllOf P (t ∷ ts) = P t × AllOf P ts

one_of : (P : List ℕ → Type 0) (w : List ℕ) (ts : List (List ℕ)) → list_any (bytes_eq w) ts ≡ true →
    AllOf P ts → P w
one_of P w [] h all = absurd (true≢false (sym h))
one_of P w (t ∷ ts) h all = elim (or_cases (bytes_eq w t) (list_any (bytes_eq w) ts) h) [
  | inl same ↦ subst P (sym ((bytes_eq-Decides w t).0 same)) all.0
  | inr more ↦ one_of P w ts more all.1
]

-- ` Anexo ` announces by a word
anexo_announces : (n : ℕ) → n ≤ 20 → Announces (codes " Anexo ") n false
unfolding ucd_case
anexo_announces n few = by_word (record {
  lead = 32 ∷ [];
  label = codes "Anexo";
  mark = [];
  gap = 32 ∷ [];
  whole = refl;
  leads = refl;
  labels = refl;
  marks = record { only = refl; few = omega arith };
  gaps = refl;
}) few

-- a sign, perhaps with a mark and a gap
sign_announces : (lead label mark gap : List ℕ) → list_all is_lead lead ≡ true →
    is_word_of signs label ≡ true → IsOptional is_mark mark → list_all is_gap gap ≡ true →
    (n : ℕ) → n ≤ 9 → Announces (lead ++ (label ++ (mark ++ gap))) n false
sign_announces lead label mark gap leads labels marks gaps n few =
    by_sign (record {
      lead = lead;
      label = label;
      mark = mark;
      gap = gap;
      whole = refl;
      leads = leads;
      labels = labels;
      marks = marks;
      gaps = gaps;
    }) few

no_mark : IsOptional is_mark []
no_mark = record { only = refl; few = omega arith }

stop_mark : IsOptional is_mark (46 ∷ [])
stop_mark = record { only = refl; few = omega arith }

-- the prefixes announce their digits
pub signs_announce : (w : List ℕ) (n : ℕ) → list_any (bytes_eq w) sign_prefixes ≡ true → n ≤ 9 →
    Announces w n false
unfolding ucd_case
signs_announce w n h few = one_of (λ t. Announces t n false) w sign_prefixes h (
  sign_announces (32 ∷ []) (codes "x") [] [] refl refl no_mark refl n few,
  (
    sign_announces (32 ∷ []) (codes "int") [] (32 ∷ []) refl refl no_mark refl n few,
    (
      sign_announces (32 ∷ []) (codes "int") (46 ∷ []) (32 ∷ []) refl refl stop_mark refl n few,
      (sign_announces [] (codes "#") [] [] refl refl no_mark refl n few, tt),
    ),
  ),
)

words_announce : (w : List ℕ) (n : ℕ) → list_any (bytes_eq w) word_prefixes ≡ true → n ≤ 20 →
    Announces w n false
words_announce w n h few = one_of (λ t. Announces t n false) w word_prefixes h (
  ext_announces n few,
  (anexo_announces n few, tt),
)

-- they are of ASCII, without slashes and semicolons
abbrev is_fine : List ℕ → Bool
is_fine w = list_all is_low w && not (list_any (is_one_of (47 ∷ 59 ∷ 92 ∷ [])) w)

announced_fine : (w e : List ℕ) → is_fine w ≡ true → IsDigits e →
    Announces w (length (chars e)) false → IsAnnounced w e
announced_fine w e fine digits announces =
    let parts = and_parts (list_all is_low w) (not (list_any (is_one_of (47 ∷ 59 ∷ 92 ∷ [])) w))
    fine in
    let same : chars w ≡ w = chars-low w parts.0 in
    record {
      digits = digits;
      utf8 = IsUtf8-low w parts.0;
      announces = subst (λ t. Announces t (length (chars e)) false) (sym same) announces;
      plain = ap (list_any (is_one_of (47 ∷ 59 ∷ 92 ∷ []))) same
          ∙ not-true (list_any (is_one_of (47 ∷ 59 ∷ 92 ∷ [])) w) parts.1;
    }

pub announced_by_word : (w e : List ℕ) → list_any (bytes_eq w) word_prefixes ≡ true → IsDigits e →
    length (chars e) ≤ 20 → IsAnnounced w e
announced_by_word w e h digits few =
    announced_fine w e (one_of (λ t. is_fine t ≡ true) w word_prefixes h (refl, (refl, tt))) digits
    (words_announce w (length (chars e)) h few)

pub announced_by_sign : (w e : List ℕ) → list_any (bytes_eq w) sign_prefixes ≡ true → IsDigits e →
    length (chars e) ≤ 9 → IsAnnounced w e
announced_by_sign w e h digits few =
    announced_fine w e (one_of (λ t. is_fine t ≡ true) w sign_prefixes h (
      refl,
      (refl, (refl, (refl, tt))),
    )) digits (signs_announce w (length (chars e)) h few)

-- where a territory prefers none, ` ext. ` is printed
by_default : (m : Metadata) → m.preferred_extension_prefix ≡ None → prefix_of m ≡ codes " ext. "
by_default m none = rw none

pub announced_by_default : (m : Metadata) (e : Option (List ℕ)) →
    m.preferred_extension_prefix ≡ None → IsParameterIfAny e → IsAnnouncedIfAny (prefix_of m) e
announced_by_default m None none h = tt
announced_by_default m (Some e) none (digits, few) =
    subst (λ w. IsAnnounced w e) (sym (by_default m none))
    (announced_by_word (codes " ext. ") e refl digits few)
