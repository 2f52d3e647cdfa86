-- Each text has a written number, or a reason why it has none.
use Rattle.std.proofs.Common.{◌≡◌, ◌⊎◌, inl, inr, ⊎_elim, ℕ, ◌≤◌, ◌<◌, ◌==◌, Bool, true, false, not, List, [], ◌∷◌, ◌++◌, length, drop, codes, Option, Some, None, option_map, encode_utf8_all, Result, Ok, Err, zero, suc, refl, ap, ◌∙◌, arith, true≢false, eqb-true, eq-eqb}
use Rattle.std.proofs.lemmas.Bool.{cases_lt}
use Rattle.std.specs.List.{list_all, list_any}
use Rattle.phone_chars.specs.Characters.{is_nd, is_plus}
use Rattle.phone_chars.specs.Cuts.{after_front}
use Rattle.phone_values.specs.declared.error.ParseError.{ParseError}
use Rattle.phone_values.specs.declared.error.ParseError.TheVariants.{NoNumber, TooLong}
use Rattle.phone_parts.specs.Cores.{IsBeforeSecondNumber, IsCore, IsTrimmed, begins_second_number, is_last, is_start}
use Rattle.phone_parts.specs.Suffixes.{IsFew, IsOptional, is_dash, is_gap, is_lead, is_mark, is_sign}
use Rattle.phone_parts.specs.Texts.{begins}
use Rattle.phone_parts.proofs.Cores.{core_same, from_first, nil_first_number, nil_trimmed}
use Rattle.phone_parts.proofs.PrintedCores.{cut_after_last}
use Rattle.phone_library_text.specs.Announcements
use Rattle.phone_library_text.specs.Announcements.{Announces, IsLabelled, are_commas, is_blank, is_word_of, pauses, signs, words}
use Rattle.phone_library_text.specs.Contexts.{IsContext, IsDomain, IsGlobal}
use Rattle.phone_library_text.specs.Extensions.{HasLongestExtension, IsExtension}
use Rattle.phone_library_text.specs.Letters.{digits_in, is_alike}
use Rattle.phone_library_text.specs.NumberTexts
use Rattle.phone_library_text.specs.NumberTexts.{HasNumberText, context_in, context_name, global_part, local_part, without_subaddress}
use Rattle.phone_library_text.specs.Places.{parted}
use Rattle.phone_library_text.specs.Viable
use Rattle.phone_library_text.specs.Viable.{HasNumber, IsExtended, IsSignedDigits, IsTwoDigits, IsViable}
use Rattle.phone_library_text.specs.Written
use Rattle.phone_library_text.specs.Written.{IsWritten, IsWrittenIn, most_characters}
use Rattle.phone_library_text.specs.declared.written.WrittenNumber.{WrittenNumber}
use Rattle.phone_library_text.proofs.Decided.{Decided, IsInTwo, IsLongestEnd, decided_as, decided_both, decided_in_two, decided_le, decided_one, decided_true, longest_end}
use Rattle.phone_library_text.proofs.Domains.{decided_domain}
use Rattle.phone_library_text.proofs.Globals.{decided_global}
use Rattle.phone_library_text.proofs.Partings.{Parting}
use Rattle.phone_library_text.proofs.Signed.{number_walk, signed_of_walk, walk_of_signed}

-- ---- announcements

decided_few : (p : ℕ → Bool) (n : ℕ) (t : List ℕ) → Decided (IsFew p n t)
decided_few p n t = decided_as ((list_all p t ≡ true) × (length t ≤ n)) (IsFew p n t)
    (λ h. record { only = h.0; few = h.1 }) (λ h. (h.only, h.few)) (decided_both (list_all p t ≡ true) (length t ≤ n) (decided_true (list_all p t)) (decided_le (length t) n))

module _ (leads : ℕ → Bool) (labels : List ℕ → Bool) where
  abbrev Told : List ℕ → List ℕ → List ℕ → List ℕ → Type 0
  Told lead label mark gap = (list_all leads lead ≡ true) × ((labels label ≡ true) × (IsOptional is_mark mark × (list_all is_gap gap ≡ true)))

  told : (lead label mark gap : List ℕ) → Decided (Told lead label mark gap)
  told lead label mark gap =
      decided_both (list_all leads lead ≡ true) ((labels label ≡ true) × (IsOptional is_mark mark × (list_all is_gap gap ≡ true))) (decided_true (list_all leads lead))
      (decided_both (labels label ≡ true) (IsOptional is_mark mark × (list_all is_gap gap ≡ true)) (decided_true (labels label))
      (decided_both (IsOptional is_mark mark) (list_all is_gap gap ≡ true) (decided_few is_mark 1 mark) (decided_true (list_all is_gap gap))))

  abbrev Last : List ℕ → List ℕ → List ℕ → Type 0
  Last lead label t = IsInTwo (Told lead label) t

  abbrev Middle : List ℕ → List ℕ → Type 0
  Middle lead t = IsInTwo (Last lead) t

  pub decided_labelled : (t : List ℕ) → Decided (IsLabelled leads labels t)
  decided_labelled t = decided_as (IsInTwo Middle t) (IsLabelled leads labels t) to back
      (decided_in_two Middle (λ lead. decided_in_two (Last lead) (λ label. decided_in_two (Told lead label) (told lead label))) t)
    where
      to : IsInTwo Middle t → IsLabelled leads labels t
      to h = let m = h.parts in let l = m.parts in record {
        lead = h.front;
        label = m.front;
        mark = l.front;
        gap = l.back;
        whole = h.whole ∙ ap (λ x. h.front ++ x) (m.whole ∙ ap (λ x. m.front ++ x) l.whole);
        leads = l.parts.0;
        labels = l.parts.1.0;
        marks = l.parts.1.1.0;
        gaps = l.parts.1.1.1;
      }

      back : IsLabelled leads labels t → IsInTwo Middle t
      back h = record {
        front = h.lead;
        back = h.label ++ (h.mark ++ h.gap);
        whole = h.whole;
        parts = record { front = h.label; back = h.mark ++ h.gap; whole = refl; parts = record { front = h.mark; back = h.gap; whole = refl; parts = (h.leads, (h.labels, (h.marks, h.gaps))) } };
      }

module _ (t : List ℕ) (n : ℕ) (signed : Bool) where
  abbrev Parameter : Type 0
  Parameter = (is_alike t (codes ";ext=") ≡ true) × ((n ≤ 20) × (signed ≡ false))

  abbrev Dashes : Type 0
  Dashes = (list_all is_dash t ≡ true) × ((1 ≤ length t) × ((n ≤ 6) × (signed ≡ true)))

  abbrev Labelled : (ℕ → Bool) → (List ℕ → Bool) → ℕ → Type 0
  Labelled leads labels most = IsLabelled leads labels t × (n ≤ most)

  labelled : (leads : ℕ → Bool) (labels : List ℕ → Bool) (most : ℕ) → Decided (Labelled leads labels most)
  labelled leads labels most = decided_both (IsLabelled leads labels t) (n ≤ most) (decided_labelled leads labels t) (decided_le n most)

  abbrev Six : Type 0
  Six = Parameter ⊎ (Labelled is_lead (is_word_of words) 20 ⊎ (Labelled is_lead (is_word_of signs) 9 ⊎ (Dashes ⊎ (Labelled is_blank (is_word_of pauses) 15 ⊎ Labelled is_blank are_commas 9))))

  six : Decided Six
  six =
      decided_one Parameter _
      (decided_both _ _ (decided_true _) (decided_both (n ≤ 20) (signed ≡ false) (decided_le n 20) (decided_false signed)))
      (decided_one (Labelled is_lead (is_word_of words) 20) _ (labelled is_lead (is_word_of words) 20)
      (decided_one (Labelled is_lead (is_word_of signs) 9) _ (labelled is_lead (is_word_of signs) 9)
      (decided_one Dashes _
      (decided_both (list_all is_dash t ≡ true) _ (decided_true (list_all is_dash t)) (decided_both (1 ≤ length t) _ (decided_le 1 (length t)) (decided_both (n ≤ 6) (signed ≡ true) (decided_le n 6) (decided_true signed))))
      (decided_one (Labelled is_blank (is_word_of pauses) 15) (Labelled is_blank are_commas 9) (labelled is_blank (is_word_of pauses) 15) (labelled is_blank are_commas 9)))))
    where
      decided_false : (b : Bool) → Decided (b ≡ false)
      decided_false false = inl refl
      decided_false true = inr (λ e. true≢false e)

  to : Six → Announces t n signed
  to (inl h) = Announcements.by_parameter h.0 h.1.0 h.1.1
  to (inr (inl h)) = Announcements.by_word h.0 h.1
  to (inr (inr (inl h))) = Announcements.by_sign h.0 h.1
  to (inr (inr (inr (inl h)))) = Announcements.by_dashes h.0 h.1.0 h.1.1.0 h.1.1.1
  to (inr (inr (inr (inr (inl h))))) = Announcements.by_pause h.0 h.1
  to (inr (inr (inr (inr (inr h))))) = Announcements.by_commas h.0 h.1

  back : Announces t n signed → Six
  back (Announcements.by_parameter a b c) = inl (a, (b, c))
  back (Announcements.by_word a b) = inr (inl (a, b))
  back (Announcements.by_sign a b) = inr (inr (inl (a, b)))
  back (Announcements.by_dashes a b c d) = inr (inr (inr (inl (a, (b, (c, d))))))
  back (Announcements.by_pause a b) = inr (inr (inr (inr (inl (a, b)))))
  back (Announcements.by_commas a b) = inr (inr (inr (inr (inr (a, b)))))

  pub decided_announces : Decided (Announces t n signed)
  decided_announces = decided_as Six (Announces t n signed) to back six

-- ---- extensions

abbrev pub HasDigits : List ℕ → Type 0
HasDigits w = (d : List ℕ) × IsExtension w d

abbrev Cut : List ℕ → List ℕ → List ℕ → Type 0
Cut a d s = Announces a (length d) (not (length s == 0)) × ((list_all is_nd d ≡ true) × ((1 ≤ length d) × IsOptional is_sign s))

cut : (a d s : List ℕ) → Decided (Cut a d s)
cut a d s =
    decided_both (Announces a (length d) (not (length s == 0))) _ (decided_announces a (length d) (not (length s == 0)))
    (decided_both (list_all is_nd d ≡ true) _ (decided_true (list_all is_nd d)) (decided_both (1 ≤ length d) (IsOptional is_sign s) (decided_le 1 (length d)) (decided_few is_sign 1 s)))

abbrev Digits : List ℕ → List ℕ → Type 0
Digits a t = IsInTwo (Cut a) t

pub decided_extension : (w : List ℕ) → Decided (HasDigits w)
decided_extension w = decided_as (IsInTwo Digits w) (HasDigits w) to_digits of_digits (decided_in_two Digits (λ a. decided_in_two (Cut a) (cut a)) w)
  where
    to_digits : IsInTwo Digits w → HasDigits w
    to_digits h = let l = h.parts in (
      l.front,
      record {
        announcement = h.front;
        sign = l.back;
        whole = h.whole ∙ ap (λ x. h.front ++ x) l.whole;
        announced = l.parts.0;
        digits = l.parts.1.0;
        some_digits = l.parts.1.1.0;
        signs = l.parts.1.1.1;
      },
    )

    of_digits : HasDigits w → IsInTwo Digits w
    of_digits (d, h) = record {
      front = h.announcement;
      back = d ++ h.sign;
      whole = h.whole;
      parts = record { front = d; back = h.sign; whole = refl; parts = (h.announced, (h.digits, (h.some_digits, h.signs))) };
    }

-- ---- viable texts

decided_two : (t : List ℕ) → Decided (IsTwoDigits t)
decided_two t = decided_as (((length t == 2) ≡ true) × (list_all is_nd t ≡ true)) (IsTwoDigits t)
    (λ h. record { two = eqb-true (length t) 2 h.0; digits = h.1 }) (λ h. (eq-eqb (length t) 2 h.two, h.digits))
    (decided_both ((length t == 2) ≡ true) (list_all is_nd t ≡ true) (decided_true (length t == 2)) (decided_true (list_all is_nd t)))

decided_signed : (t : List ℕ) → Decided (IsSignedDigits t)
decided_signed t =
    decided_as (number_walk 3 (after_front is_plus t) ≡ true) (IsSignedDigits t) (signed_of_walk t) (walk_of_signed t) (decided_true (number_walk 3 (after_front is_plus t)))

abbrev Extended : List ℕ → List ℕ → Type 0
Extended n w = IsSignedDigits n × HasDigits w

decided_extended : (t : List ℕ) → Decided (IsExtended t)
decided_extended t = decided_as (IsInTwo Extended t) (IsExtended t)
    (λ h. record { number = h.front; extension = h.back; digits = h.parts.1.0; whole = h.whole; is_number = h.parts.0; is_extension = h.parts.1.1 })
    (λ h. record { front = h.number; back = h.extension; whole = h.whole; parts = (h.is_number, (h.digits, h.is_extension)) })
    (decided_in_two Extended (λ n w. decided_both (IsSignedDigits n) (HasDigits w) (decided_signed n) (decided_extension w)) t)

pub decided_viable : (t : List ℕ) → Decided (IsViable t)
decided_viable t = decided_one (IsTwoDigits t) (IsSignedDigits t ⊎ IsExtended t) (decided_two t) (decided_one (IsSignedDigits t) (IsExtended t) (decided_signed t) (decided_extended t))

-- a text has a number and perhaps an extension
pub record HasSomeNumber (t : List ℕ) : Type 0 where
  pub front : List ℕ
  pub extension : Option (List ℕ)
  pub number : HasNumber t front extension

pub some_number : (t : List ℕ) → HasSomeNumber t
some_number t = at (longest_end HasDigits decided_extension t)
  where
    longest : (l : IsLongestEnd HasDigits t) → HasLongestExtension t l.before l.holds.0
    longest l = record { extension = l.end; whole = l.whole; is_extension = l.holds.1; longest = λ k e less h. l.longest k less (e, h) }

    by : (l : IsLongestEnd HasDigits t) → Decided (IsViable l.before) → HasSomeNumber t
    by l (inl v) = record { front = l.before; extension = Some l.holds.0; number = Viable.extended l.before l.holds.0 (longest l) v }
    by l (inr v) = record { front = t; extension = None; number = Viable.not_viable l.before l.holds.0 (longest l) v }

    at : IsLongestEnd HasDigits t ⊎ ((k : ℕ) → ¬ (HasDigits (drop k t))) → HasSomeNumber t
    at (inl l) = by l (decided_viable l.before)
    at (inr none) = record { front = t; extension = None; number = Viable.plain (λ k d h. none k (d, h)) }

-- ---- the text that a number is read from

some_trimmed : (t : List ℕ) → (kept : List ℕ) × IsTrimmed t kept
some_trimmed t = at (list_any is_last t) refl
  where
    at : (b : Bool) → list_any is_last t ≡ b → (kept : List ℕ) × IsTrimmed t kept
    at true e = let c = cut_after_last is_last t e in (c.kept, record { trailing = c.rest; whole = c.whole; no_last = c.none; trimmed = inr c.last })
    at false e = ([], record { trailing = t; whole = refl; no_last = e; trimmed = inl refl })

some_first : (t : List ℕ) → (first : List ℕ) × IsBeforeSecondNumber t first
some_first [] = ([], record { after = []; whole = refl; ended = inl refl; earliest = λ k less. absurd (omega (arith, less)) })
some_first (c ∷ cs) = at (begins_second_number (c ∷ cs)) refl (some_first cs)
  where
    earlier : (first : List ℕ) → begins_second_number (c ∷ cs) ≡ false → ((k : ℕ) → k < length first → begins_second_number (drop k cs) ≡ false) →
        (k : ℕ) → k < suc (length first) → begins_second_number (drop k (c ∷ cs)) ≡ false
    earlier first e f zero less = e
    earlier first e f (suc k) less = f k (omega (arith, less))

    at : (b : Bool) → begins_second_number (c ∷ cs) ≡ b → ((first : List ℕ) × IsBeforeSecondNumber cs first) →
        (first : List ℕ) × IsBeforeSecondNumber (c ∷ cs) first
    at true e h = ([], record { after = c ∷ cs; whole = refl; ended = inr e; earliest = λ k less. absurd (omega (arith, less)) })
    at false e (first, h) = (
      c ∷ first,
      record { after = h.after; whole = ap (λ t. c ∷ t) h.whole; ended = h.ended; earliest = earlier first e h.earliest },
    )

abbrev HasCore : List ℕ → Type 0
HasCore t = (core : List ℕ) × IsCore t core

decided_core : (t : List ℕ) → Decided (HasCore t)
decided_core t = at (some_trimmed from)
  where
    from : List ℕ
    from = after_front (λ x. not (is_start x)) t

    whole : (kept first : List ℕ) → IsTrimmed from kept → IsBeforeSecondNumber kept first → (c : ℕ) (cs : List ℕ) → first ≡ c ∷ cs → HasCore t
    whole kept first trimmed before c cs e =
        let f = from_first is_start t in
        let some : ¬ (first ≡ []) = λ g. cc in (
          first,
          record {
            before = f.before;
            from = from;
            kept = kept;
            whole = f.whole;
            no_start = f.none;
            starts = ⊎_elim (λ g. absurd (some (nil_first_number kept first (nil_trimmed from kept g trimmed) before))) (λ g. g) f.first;
            trimmed = trimmed;
            first = before;
            not_empty = some;
          },
        )

    by : (kept first : List ℕ) → IsTrimmed from kept → IsBeforeSecondNumber kept first → (x : List ℕ) → first ≡ x → Decided (HasCore t)
    by kept first trimmed before [] e = inr (λ h. h.1.not_empty (core_same t h.0 kept first h.1 trimmed before ∙ e))
    by kept first trimmed before (c ∷ cs) e = inl (whole kept first trimmed before c cs e)

    at : ((kept : List ℕ) × IsTrimmed from kept) → Decided (HasCore t)
    at (kept, trimmed) = let f = some_first kept in by kept f.0 trimmed f.1 f.0 refl

pub record HasSomeText (t : List ℕ) : Type 0 where
  pub text : Option (List ℕ)
  pub has_text : HasNumberText t text

pub some_text : (t : List ℕ) → HasSomeText t
some_text t = at (parted context_name t) refl
  where
    with : (front after : List ℕ) → parted context_name t ≡ Some (front, after) → Decided (IsContext (context_in after)) → HasSomeText t
    with front after e (inl h) =
        record { text = Some (without_subaddress (global_part (context_in after) ++ local_part t front)); has_text = NumberTexts.local front after e h }
    with front after e (inr h) = record { text = None; has_text = NumberTexts.no_context front after e h }

    free : parted context_name t ≡ None → Decided (HasCore t) → HasSomeText t
    free e (inl (core, h)) = record { text = Some (without_subaddress core); has_text = NumberTexts.free core e h }
    free e (inr h) = record { text = None; has_text = NumberTexts.nothing e (λ core g. h (core, g)) }

    at : (o : Option Parting) → parted context_name t ≡ o → HasSomeText t
    at None e = free e (decided_core t)
    at (Some (front, after)) e =
        with front after e (decided_one (IsGlobal (context_in after)) (IsDomain (context_in after)) (decided_global (context_in after))
        (decided_domain (length (context_in after)) (context_in after) (omega arith)))

-- ---- what is written

some_written_in : (n : List ℕ) → (r : Result WrittenNumber ParseError) × IsWrittenIn n r
some_written_in n = at (decided_viable n)
  where
    at : Decided (IsViable n) → (r : Result WrittenNumber ParseError) × IsWrittenIn n r
    at (inl v) =
        let s = some_number n in (
          Ok (record { has_plus = begins is_plus n; digits = digits_in s.front; extension = option_map encode_utf8_all s.extension }),
          Written.number s.front s.extension v s.number,
        )
    at (inr v) = (Err NoNumber, Written.not_viable v)

pub some_written : (t : List ℕ) → (r : Result WrittenNumber ParseError) × IsWritten t r
some_written t = at (cases_lt most_characters (length t))
  where
    by : length t ≤ most_characters → (o : Option (List ℕ)) → HasNumberText t o → (r : Result WrittenNumber ParseError) × IsWritten t r
    by le None h = (Err NoNumber, Written.nothing le h)
    by le (Some n) h = let w = some_written_in n in (w.0, Written.something n w.0 le h w.1)

    at : (most_characters < length t) ⊎ (length t ≤ most_characters) → (r : Result WrittenNumber ParseError) × IsWritten t r
    at (inl less) = (Err TooLong, Written.too_long less)
    at (inr le) = let s = some_text t in by le s.text s.has_text
