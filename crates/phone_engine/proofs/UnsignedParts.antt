-- A text that begins with a plus sign and a digit has the parts that it has without the sign.
use Rattle.std.proofs.Common.{◌≡◌, inl, inr, ℕ, suc, ◌==◌, true, false, List, [], ◌∷◌, ◌++◌, drop, Option, None, Some, IfSome, Result, Ok, IfOk, refl, ap, sym, subst, ◌∙◌, arith, true≢false}
use Rattle.std.proofs.lemmas.Bool.{or_parts, or_right}
use Rattle.std.specs.List.{list_any}
use Rattle.phone_chars.specs.Characters.{is_digit, is_nd, is_plus}
use Rattle.phone_parts.specs.Cores.{IsCore, begins_second_number, is_last, is_start}
use Rattle.phone_parts.specs.Naturals
use Rattle.phone_parts.specs.Naturals.{IsNatural}
use Rattle.phone_parts.specs.Parts.{Parts}
use Rattle.phone_parts.specs.Readers
use Rattle.phone_parts.specs.Readers.{HasParts}
use Rattle.phone_parts.specs.Suffixes.{HasLongestSuffix, HasNoSuffix}
use Rattle.phone_parts.specs.Texts.{ends}
use Rattle.phone_parts.specs.declared.natural.NoReading.{NoReading}
use Rattle.phone_parts.proofs.PrintedInternational.{digit_nd}
use Rattle.phone_parts.proofs.TelRefusals.{spaced}

-- nothing stands before a plus sign that a number starts at
from_sign : (before from text : List ℕ) → 43 ∷ text ≡ before ++ from →
    list_any is_start before ≡ false → from ≡ 43 ∷ text
from_sign [] from text e none = sym e
from_sign (b ∷ before) from text e none =
    let same : b ≡ 43 = cc in
    let start : is_start b ≡ true = ap is_start same in
    absurd (true≢false (sym start ∙ (or_parts (is_start b) (list_any is_start before) none).0))

module _ (d : ℕ) (digit : is_digit d ≡ true) (t : List ℕ) where
  -- the core without the sign
  unsigned_core : (c : List ℕ) → IsCore (43 ∷ d ∷ t) (43 ∷ d ∷ c) → IsCore (d ∷ t) (d ∷ c)
  unsigned_core c h =
      let kept = c ++ h.first.after in
      let whole : 43 ∷ d ∷ t ≡ (43 ∷ d ∷ kept) ++ h.trimmed.trailing =
      sym (from_sign h.before h.from (d ∷ t) h.whole h.no_start) ∙ h.trimmed.whole
      ∙ ap (λ k. k ++ h.trimmed.trailing) h.first.whole in
      record {
        before = [];
        from = d ∷ t;
        kept = d ∷ kept;
        whole = refl;
        no_start = refl;
        starts = or_right (is_plus d) (is_nd d) (digit_nd d digit);
        trimmed = record {
          trailing = h.trimmed.trailing;
          whole = ap (drop 1) whole;
          no_last = h.trimmed.no_last;
          trimmed = elim h.trimmed.trimmed [
            | inl none ↦ absurd (let nothing : 43 ∷ d ∷ kept ≡ [] = sym h.first.whole ∙ none in cc)
            | inr last ↦ inr (sym (ap (ends is_last) h.first.whole) ∙ last)
          ];
        };
        first = record {
          after = h.first.after;
          whole = refl;
          ended = h.first.ended;
          earliest = λ k less.
              sym (ap (λ t. begins_second_number (drop (suc k) t)) h.first.whole)
              ∙ h.first.earliest (suc k) (omega arith);
        };
        not_empty = λ e. cc;
      }

  -- the longest extension stays it
  unsigned_longest : (k s e : List ℕ) → HasLongestSuffix (43 ∷ d ∷ (k ++ s)) (43 ∷ d ∷ k) e →
      HasLongestSuffix (d ∷ (k ++ s)) (d ∷ k) e
  unsigned_longest k s e h = record {
    suffix = h.suffix;
    whole = ap (drop 1) h.whole;
    is_suffix = h.is_suffix;
    longest = λ j f x less. h.longest (suc j) f x (omega arith);
  }

  -- what free text is read as
  abbrev Unsigned : Parts → Type 0
  Unsigned p = (k : List ℕ) → p.national ≡ 43 ∷ d ∷ k →
      IsNatural (d ∷ t) (Ok (record { national = d ∷ k; prefix = None; extension = p.extension }))

  extended_unsigned : (c n e : List ℕ) → IsCore (43 ∷ d ∷ t) c → HasLongestSuffix c n e →
      (k : List ℕ) → n ≡ 43 ∷ d ∷ k →
      IsNatural (d ∷ t) (Ok (record { national = d ∷ k; prefix = None; extension = Some e }))
  extended_unsigned c n e core longest k same =
      let s = longest.suffix in
      let whole : c ≡ 43 ∷ d ∷ (k ++ s) = longest.whole ∙ ap (λ t. t ++ s) same in
      Naturals.extended (d ∷ (k ++ s)) (d ∷ k) e
      (unsigned_core (k ++ s) (subst (IsCore (43 ∷ d ∷ t)) whole core))
      (unsigned_longest k s e
      (subst (λ t. HasLongestSuffix t (43 ∷ d ∷ k) e) whole
      (subst (λ t. HasLongestSuffix c t e) same longest)))

  unsigned_natural : (r : Result Parts NoReading) → IsNatural (43 ∷ d ∷ t) r → IfOk r Unsigned
  unsigned_natural r (Naturals.nothing none) = tt
  unsigned_natural r (Naturals.extended c n e core longest) =
      extended_unsigned c n e core longest
  unsigned_natural r (Naturals.plain c core none) = λ k same.
      Naturals.plain (d ∷ k) (unsigned_core k (subst (IsCore (43 ∷ d ∷ t)) same core))
      (λ j f x. subst HasNoSuffix same none (suc j) f x)

  module _ (space : list_any (λ c. c == 32) t ≡ true) where
    unsigned : (o : Option Parts) → HasParts (43 ∷ d ∷ t) o → IfSome o (λ p. (k : List ℕ) →
        p.national ≡ 43 ∷ d ∷ k →
        HasParts (d ∷ t) (Some (record { national = d ∷ k; prefix = None; extension = p.extension })))
    unsigned o (Readers.as_tel p h) = absurd (spaced (43 ∷ d ∷ t) (or_right (d == 32) _ space) p h)
    unsigned o (Readers.as_natural p other h) = λ k same.
        let parts : Parts = record { national = d ∷ k; prefix = None; extension = p.extension } in
        Readers.as_natural parts (spaced (d ∷ t) (or_right (d == 32) _ space))
        (unsigned_natural (Ok p) h k same)
    unsigned o (Readers.as_neither e other h) = tt

    -- its parts
    pub unsigned_parts : (k : List ℕ) (e : Option (List ℕ)) →
        HasParts (43 ∷ d ∷ t) (Some (record { national = 43 ∷ d ∷ k; prefix = None; extension = e })) →
        HasParts (d ∷ t) (Some (record { national = d ∷ k; prefix = None; extension = e }))
    unsigned_parts k e h =
        unsigned (Some (record { national = 43 ∷ d ∷ k; prefix = None; extension = e })) h k refl
