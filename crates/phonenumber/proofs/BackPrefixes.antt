-- The benign prefixes announce by a word.
use Rattle.std.proofs.Common.{◌≡◌, ◌⊎◌, inl, inr, ℕ, ◌&&◌, nat_le, leb-true, Bool, true, List, [], ◌∷◌, ◌++◌, codes, length, Option, None, Some, refl, sym, subst, true≢false}
use Rattle.std.proofs.lemmas.Bool.{and_parts, or_cases}
use Rattle.std.proofs.lemmas.Slice.Eq.{bytes_eq-Decides}
use Rattle.std.specs.List.{list_all, list_any}
use Rattle.std.specs.Prelude.{⊤}
use Rattle.std.specs.Str.{bytes_eq, chars}
use Rattle.ucd_case.proofs.Computing.{ucd_case}
use Rattle.ucd_category.proofs.Computing.{ucd_category}
use Rattle.phone_chars.specs.Characters.{is_digit, is_letter}
use Rattle.phone_values.specs.declared.mode.Mode.TheVariants.{International}
use Rattle.phone_territory.specs.Prefixes.{benign_prefixes, is_benign_prefix}
use Rattle.phone_records.specs.declared.loader.Metadata.{Metadata}
use Rattle.phone_parts.specs.Announcements.{IsAnnouncement, is_space}
use Rattle.phone_parts.specs.Suffixes.{indicators, is_mark}
use Rattle.phone_parts.specs.Texts.{ends, is_like}
use Rattle.phone_values.specs.declared.reading.Reading.{Reading}
use Rattle.phonenumber.specs.Plain.{IsAnnouncedSafely}
use Rattle.phone_print.specs.Texts.{laid_out}
use Rattle.phonenumber.proofs.BackLaws.{IsAnnounced}
use Rattle.phonenumber.proofs.BackTexts.{IsUtf8-low, chars-low, is_low}

-- an announcement in ASCII
record IsLowAnnouncement (t : List ℕ) : Type 0 where
  pub low : list_all is_low t ≡ true
  pub by_word : IsAnnouncement t

-- an ASCII announcement by its parts
abbrev announces : List ℕ → List ℕ → List ℕ → List ℕ → Bool
announces lead word mark gap =
    list_all is_space lead
    && (list_any (is_like word) indicators
    && (list_all is_letter word
    && (list_all is_mark mark
    && (nat_le (length mark) 1
    && (list_all is_space gap
    && list_all is_low (lead ++ (word ++ (mark ++ gap))))))))

by_parts : (lead word mark gap : List ℕ) → announces lead word mark gap ≡ true →
    IsLowAnnouncement (lead ++ (word ++ (mark ++ gap)))
by_parts lead word mark gap h =
    let leads = and_parts (list_all is_space lead) _ h in
    let words = and_parts (list_any (is_like word) indicators) _ leads.1 in
    let letters = and_parts (list_all is_letter word) _ words.1 in
    let marks = and_parts (list_all is_mark mark) _ letters.1 in
    let few = and_parts (nat_le (length mark) 1) _ marks.1 in
    let gaps = and_parts (list_all is_space gap) _ few.1 in
    record {
      low = gaps.1;
      by_word = record {
        lead = lead;
        word = word;
        mark = mark;
        gap = gap;
        whole = refl;
        leads = leads.0;
        announces = words.0;
        letters = letters.0;
        marks = record { only = marks.0; few = leb-true (length mark) 1 few.0 };
        gaps = gaps.0;
      };
    }

-- it holds of each text of the list
abbrev AreAll : (List ℕ → Type 0) → List (List ℕ) → Type 0
AreAll P [] = ⊤
AreAll P (t ∷ ts) = P t × AreAll P ts

all_announce : AreAll IsLowAnnouncement benign_prefixes
unfolding ucd_case ucd_category
all_announce = (
  by_parts (codes " ") (codes "ext") (codes ".") (codes " ") refl,
  (
    by_parts (codes " ") (codes "ext") [] (codes " ") refl,
    (
      by_parts (codes " ") (codes "ext") (codes ":") (codes " ") refl,
      (
        by_parts (codes " ") (codes "extn") (codes ".") (codes " ") refl,
        (
          by_parts (codes " ") (codes "anexo") [] (codes " ") refl,
          (
            by_parts (codes " ") (codes "int") [] (codes " ") refl,
            (
              by_parts (codes " ") (codes "x") [] [] refl,
              tt,
            ),
          ),
        ),
      ),
    ),
  ),
)

-- what holds of all texts holds of one that equals one of them
one_of_all : (P : List ℕ → Type 0) (p : List ℕ) (ts : List (List ℕ)) → AreAll P ts →
    list_any (bytes_eq p) ts ≡ true → P p
one_of_all P p [] all some = absurd (true≢false (sym some))
one_of_all P p (t ∷ ts) all some = elim (or_cases (bytes_eq p t) (list_any (bytes_eq p) ts) some) [
  | inl same ↦ subst P (sym ((bytes_eq-Decides p t).0 same)) all.0
  | inr later ↦ one_of_all P p ts all.1 later
]

benign_announced : (m : Metadata) (n : Reading) (o : Option (List ℕ)) →
    m.preferred_extension_prefix ≡ o → is_benign_prefix o ≡ true →
    ends is_digit (chars (laid_out m International None n)) ≡ true → IsAnnounced m n
benign_announced m n None preferred benign digit = inl (inr preferred)
benign_announced m n (Some p) preferred benign digit =
    let one = one_of_all IsLowAnnouncement p benign_prefixes all_announce benign in
    inr (record {
      prefix = p;
      preferred = preferred;
      utf8 = IsUtf8-low p one.low;
      by_word = subst IsAnnouncement (sym (chars-low p one.low)) one.by_word;
      after_digit = digit;
    })

-- so an extension that is announced by one is read back
pub announced_safely : (m : Metadata) (n : Reading) → (n.extension ≡ None) ⊎ IsAnnouncedSafely m n →
    IsAnnounced m n
announced_safely m n (inl none) = inl (inl none)
announced_safely m n (inr (inl default)) = inl (inr default)
announced_safely m n (inr (inr (benign, digit))) =
    benign_announced m n m.preferred_extension_prefix refl benign digit
