-- The longest ends of a text that may follow an indicator, or that are extensions with a number sign.
use Rattle.std.proofs.Common.{◌≡◌, ⊎_elim, ℕ, ◌≤◌, ◌<◌, true, List, [], ◌∷◌, ◌++◌, length, length-append, append_assoc, append-nil, ◌==◌, eqb-true, refl, ap, sym, ◌∙◌, true≢false, arith}
use Rattle.std.proofs.lemmas.Bool.{and_parts, cases_lt, eq-eqb}
use Rattle.std.proofs.lemmas.List.{append_cancel_left, append_cancel_right, nil_from_length}
use Rattle.std.specs.List.{list_all}
use Rattle.phone_chars.specs.Characters.{is_nd}
use Rattle.phone_parts.specs.Longest.{IsWithoutLongest}
use Rattle.phone_parts.specs.Suffixes.{IsFew, IsSomeEnding, IsNumberSigned, is_mark, is_gap, is_sign, is_dash}
use Rattle.phone_parts.specs.Texts.{ends}
use Rattle.phone_parts.proofs.Cores.{ends-push}
use Rattle.phone_parts.proofs.Endings.{dash_nd, length_some}
use Rattle.phone_parts.proofs.Longest.{IsFollowed, HasEnds, cuts_meet, all_parts, few_fronts, few_ends, run_fronts, run_ends, followed_ends, then_longest, longest_as}

-- a front of a front is a front
pub front_of_front : (text middle left : List ℕ) → ((v : List ℕ) × (text ≡ middle ++ v)) → ((v : List ℕ) × (middle ≡ left ++ v)) → (v : List ℕ) × (text ≡ left ++ v)
front_of_front text middle left a b = (b.0 ++ a.0, a.1 ∙ ap (λ t. t ++ a.0) b.1 ∙ append_assoc left b.0 a.0)

-- the four parts of an ending, from the last on
abbrev Signs : List ℕ → Type 0
Signs w = IsFew is_sign 1 w

abbrev Numbers : List ℕ → Type 0
Numbers w = IsFew is_nd 7 w

abbrev Gaps : List ℕ → Type 0
Gaps w = list_all is_gap w ≡ true

abbrev Marks : List ℕ → Type 0
Marks w = IsFew is_mark 1 w

abbrev Parted : List ℕ → Type 0
Parted = IsFollowed Marks (IsFollowed Gaps (IsFollowed Numbers Signs))

parts_of_ending : (w : List ℕ) → IsSomeEnding w → Parted w
parts_of_ending w (d, h) = record {
  front = h.mark;
  back = h.gap ++ (d ++ h.sign);
  whole = h.whole;
  first = h.marks;
  second = record { front = h.gap; back = d ++ h.sign; whole = refl; first = h.gaps; second = record { front = d; back = h.sign; whole = refl; first = h.digits; second = h.signs } };
}

ending_of_parts : (w : List ℕ) → Parted w → IsSomeEnding w
ending_of_parts w h =
    let g = h.second in
    let n = g.second in (
      n.front,
      record {
        mark = h.front;
        gap = g.front;
        sign = n.back;
        whole = h.whole ∙ ap (λ t. h.front ++ t) (g.whole ∙ ap (λ t. g.front ++ t) n.whole);
        marks = h.first;
        gaps = g.first;
        digits = n.first;
        signs = n.second;
      },
    )

-- an end of an ending is an ending
pub ending_ends : HasEnds IsSomeEnding
ending_ends a b h =
    ending_of_parts b (followed_ends Marks (IsFollowed Gaps (IsFollowed Numbers Signs)) (few_ends is_mark 1)
    (followed_ends Gaps (IsFollowed Numbers Signs) (run_ends is_gap) (followed_ends Numbers Signs (few_ends is_nd 7) (few_ends is_sign 1))) a b (parts_of_ending (a ++ b) h))

-- the longest parts make the longest ending
pub longest_ending : (text signless bare gapless left : List ℕ) → IsWithoutLongest (λ w. IsFew is_sign 1 w) text signless → IsWithoutLongest (λ w. IsFew is_nd 7 w) signless bare →
    IsWithoutLongest (λ w. list_all is_gap w ≡ true) bare gapless → IsWithoutLongest (λ w. IsFew is_mark 1 w) gapless left → IsWithoutLongest IsSomeEnding text left
longest_ending text signless bare gapless left sign digits gap mark =
    longest_as Parted IsSomeEnding text left ending_of_parts parts_of_ending
    (then_longest Marks (IsFollowed Gaps (IsFollowed Numbers Signs)) text gapless left (few_fronts is_mark 1)
    (then_longest Gaps (IsFollowed Numbers Signs) text bare gapless (run_fronts is_gap) (then_longest Numbers Signs text signless bare (few_fronts is_nd 7) sign digits) gap)
    mark)

-- texts that end in one character each are one only where that is one
last_same : (a b : List ℕ) (x y : ℕ) → a ++ x ∷ [] ≡ b ++ y ∷ [] → x ≡ y
last_same a b x y e = eqb-true x y (sym (ends-push (λ c. c == y) a x) ∙ ap (ends (λ c. c == y)) e ∙ ends-push (λ c. c == y) b y ∙ eq-eqb y y refl)

-- an extension with a number sign ends in it
pub ends_in_sign : (front : List ℕ) (last : ℕ) (before w d : List ℕ) → front ++ last ∷ [] ≡ before ++ w → IsNumberSigned w d → last ≡ 35
ends_in_sign front last before w d e h =
    last_same front (before ++ (h.lead ++ d)) last 35
    (e ∙ ap (λ t. before ++ t) (h.whole ∙ sym (append_assoc h.lead d (35 ∷ []))) ∙ sym (append_assoc before (h.lead ++ d) (35 ∷ [])))

-- a front that is as long as the text is the text
pub whole_front : (text left : List ℕ) → ((v : List ℕ) × (text ≡ left ++ v)) → length left ≡ length text → left ≡ text
whole_front text left cut size =
    let nil : cut.0 ≡ [] = nil_from_length cut.0 (omega (arith, size, ap length cut.1, length-append left cut.0)) in
    sym (cut.1 ∙ ap (λ t. left ++ t) nil ∙ append-nil left)

-- the parts of an extension with a number sign
module _ (text signless bare : List ℕ) (whole : text ≡ signless ++ 35 ∷ []) (digits : IsWithoutLongest (λ w. IsFew is_nd 5 w) signless bare) where
  -- what stands before the sign
  before_sign : (before w d : List ℕ) → text ≡ before ++ w → (h : IsNumberSigned w d) → signless ≡ before ++ (h.lead ++ d)
  before_sign before w d cut h =
      append_cancel_right signless (before ++ (h.lead ++ d)) (35 ∷ [])
      (sym whole ∙ cut ∙ ap (λ t. before ++ t) (h.whole ∙ sym (append_assoc h.lead d (35 ∷ []))) ∙ sym (append_assoc before (h.lead ++ d) (35 ∷ [])))

  -- the longest digits reach as far as those of the extension
  bare_le : (before w d : List ℕ) → text ≡ before ++ w → (h : IsNumberSigned w d) → length bare ≤ length (before ++ h.lead)
  bare_le before w d cut h =
      digits.longest (before ++ h.lead) d (before_sign before w d cut h ∙ sym (append_assoc before h.lead d)) h.digits

  -- so there are digits
  pub some_digits : (before w d : List ℕ) → text ≡ before ++ w → IsNumberSigned w d → length bare < length signless
  some_digits before w d cut h =
      let far = bare_le before w d cut h in
      let parts = before_sign before w d cut h ∙ sym (append_assoc before h.lead d) in
      omega (arith, far, h.some_digits, ap length parts, length-append (before ++ h.lead) d)

  -- and no further, as no digit is a hyphen or a space
  pub lead_before : (before w d : List ℕ) → text ≡ before ++ w → IsNumberSigned w d → length before < length bare
  lead_before before w d cut h =
      ⊎_elim
      (λ (less : length before < length bare). less)
      (λ (more : length bare ≤ length before).
      let m = cuts_meet before (h.lead ++ d) bare digits.end (sym (before_sign before w d cut h) ∙ digits.whole) more in
      let there : list_all is_nd (m.0 ++ (h.lead ++ d)) ≡ true = ap (list_all is_nd) (sym m.2) ∙ digits.kind.only in
      absurd (apart h.lead h.some_lead h.leads (all_parts is_nd h.lead d (all_parts is_nd m.0 (h.lead ++ d) there).1).0))
      (cases_lt (length before) (length bare))
    where
      apart : (lead : List ℕ) → 1 ≤ length lead → list_all is_dash lead ≡ true → ¬ (list_all is_nd lead ≡ true)
      apart [] some dashes all = omega (arith, some)
      apart (x ∷ lead) some dashes all =
          let digit = (and_parts (is_nd x) (list_all is_nd lead) all).0 in
          let dash = (and_parts (is_dash x) (list_all is_dash lead) dashes).0 in
          true≢false (sym dash ∙ dash_nd x digit)

  -- the longest lead of hyphens and spaces reaches as far as that of the extension
  pub lead_le : (left before w d : List ℕ) → IsWithoutLongest (λ v. list_all is_dash v ≡ true) bare left → text ≡ before ++ w → IsNumberSigned w d →
      length left ≤ length before
  lead_le left before w d dashes cut h =
      let far = bare_le before w d cut h in
      let parts = before_sign before w d cut h ∙ sym (append_assoc before h.lead d) in
      let m = cuts_meet (before ++ h.lead) d bare digits.end (sym parts ∙ digits.whole) far in
      let less = lead_before before w d cut h in
      let n = cuts_meet bare m.0 before h.lead (sym m.1) (omega (arith, less)) in
      dashes.longest before n.0 n.1 (all_parts is_dash n.0 m.0 (ap (list_all is_dash) (sym n.2) ∙ h.leads)).0

  -- and where there are such digits and such a lead, they make an extension
  pub number_signed_parts : (left : List ℕ) → (dashes : IsWithoutLongest (λ v. list_all is_dash v ≡ true) bare left) → ¬ (bare ≡ signless) → ¬ (left ≡ bare) →
      (w : List ℕ) → text ≡ left ++ w → IsNumberSigned w digits.end
  number_signed_parts left dashes has_digits has_lead w cut = record {
    lead = dashes.end;
    whole = append_cancel_left left w (dashes.end ++ (digits.end ++ 35 ∷ []))
        (sym cut ∙ whole ∙ ap (λ t. t ++ 35 ∷ []) (digits.whole ∙ ap (λ t. t ++ digits.end) dashes.whole)
        ∙ append_assoc (left ++ dashes.end) digits.end (35 ∷ []) ∙ append_assoc left dashes.end (digits.end ++ 35 ∷ []));
    leads = dashes.kind;
    some_lead = length_some dashes.end (λ e. has_lead (sym (dashes.whole ∙ ap (λ t. left ++ t) e ∙ append-nil left)));
    digits = digits.kind;
    some_digits = length_some digits.end (λ e. has_digits (sym (digits.whole ∙ ap (λ t. bare ++ t) e ∙ append-nil bare)));
  }
