-- No announcement has a digit, and none is empty: so the digits of an extension are the longest run of digits before the text's end, or before a number sign there.
use Rattle.std.proofs.Common.{◌≡◌, ℕ, ◌==◌, Bool, true, false, not, List, [], ◌∷◌, ◌++◌, eqb-true, refl, ap, sym, ◌∙◌, true≢false, arith}
use Rattle.std.proofs.lemmas.Bool.{and_from, and_parts, not_from_false, or_from, or_parts}
use Rattle.std.proofs.lemmas.List.Folds.{list_any-append}
use Rattle.std.specs.List.{list_any, list_all}
use Rattle.ucd_category.proofs.Computing.{ucd_category}
use Rattle.phone_chars.specs.Characters.{is_nd}
use Rattle.phone_parts.specs.Suffixes.{is_dash, is_gap, is_lead, is_mark}
use Rattle.phone_parts.proofs.Endings.{AreApart, members_apart}
use Rattle.phone_library_text.specs.Announcements.{Announces, by_parameter, by_word, by_sign, by_dashes, by_pause, by_commas, IsLabelled, are_commas, is_blank, is_word_of, pauses, signs, words}
use Rattle.phone_library_text.proofs.Alikes.{parameter_no_digit, pause_no_digit, sign_no_digit, word_no_digit}

lead_nd : AreApart is_nd is_lead
unfolding ucd_category
lead_nd = members_apart is_nd (32 ∷ 0xA0 ∷ 9 ∷ 44 ∷ []) refl

blank_nd : AreApart is_nd is_blank
unfolding ucd_category
blank_nd = members_apart is_nd (32 ∷ 0xA0 ∷ 9 ∷ []) refl

mark_nd : AreApart is_nd is_mark
unfolding ucd_category
mark_nd = members_apart is_nd (58 ∷ 46 ∷ 0xFF0E ∷ []) refl

gap_nd : AreApart is_nd is_gap
unfolding ucd_category
gap_nd = members_apart is_nd (32 ∷ 0xA0 ∷ 9 ∷ 44 ∷ 45 ∷ []) refl

dash_nd : AreApart is_nd is_dash
unfolding ucd_category
dash_nd = members_apart is_nd (45 ∷ 32 ∷ []) refl

comma_nd : is_nd 44 ≡ false
unfolding ucd_category
comma_nd = refl

-- a run of a set without digits has none
none_in_run : (q : ℕ → Bool) → AreApart is_nd q → (run : List ℕ) → list_all q run ≡ true → list_any is_nd run ≡ false
none_in_run q apart [] all = refl
none_in_run q apart (c ∷ run) all =
    let parts = and_parts (q c) (list_all q run) all in
    or_from (is_nd c) (list_any is_nd run) (apart c parts.0) (none_in_run q apart run parts.1)

none_in_both : (a b : List ℕ) → list_any is_nd a ≡ false → list_any is_nd b ≡ false → list_any is_nd (a ++ b) ≡ false
none_in_both a b e f = list_any-append is_nd a b ∙ or_from (list_any is_nd a) (list_any is_nd b) e f

labelled_none : (p : ℕ → Bool) (q : List ℕ → Bool) → AreApart is_nd p → ((label : List ℕ) → q label ≡ true → list_any is_nd label ≡ false) →
    (t : List ℕ) → IsLabelled p q t → list_any is_nd t ≡ false
labelled_none p q apart labels t h =
    ap (list_any is_nd) h.whole
    ∙ none_in_both h.lead (h.label ++ (h.mark ++ h.gap)) (none_in_run p apart h.lead h.leads)
    (none_in_both h.label (h.mark ++ h.gap) (labels h.label h.labels)
    (none_in_both h.mark h.gap (none_in_run is_mark mark_nd h.mark h.marks.only) (none_in_run is_gap gap_nd h.gap h.gaps)))

commas_none : (run : List ℕ) → are_commas run ≡ true → list_any is_nd run ≡ false
commas_none run are =
    none_in_run (λ c. c == 44) (λ c e. ap is_nd (eqb-true c 44 e) ∙ comma_nd) run (and_parts _ _ are).1

pub no_digit : (t : List ℕ) (n : ℕ) (signed : Bool) → Announces t n signed → list_any is_nd t ≡ false
no_digit t n signed (by_parameter alike few unsigned) = parameter_no_digit t alike
no_digit t n signed (by_word h few) = labelled_none is_lead (is_word_of words) lead_nd word_no_digit t h
no_digit t n signed (by_sign h few) = labelled_none is_lead (is_word_of signs) lead_nd sign_no_digit t h
no_digit t n signed (by_dashes all some few is_signed) = none_in_run is_dash dash_nd t all
no_digit t n signed (by_pause h few) = labelled_none is_blank (is_word_of pauses) blank_nd pause_no_digit t h
no_digit t n signed (by_commas h few) = labelled_none is_blank are_commas blank_nd commas_none t h

-- where none is a digit all are others
pub all_others : (t : List ℕ) → list_any is_nd t ≡ false → list_all (λ c. not (is_nd c)) t ≡ true
all_others [] none = refl
all_others (c ∷ cs) none =
    let parts = or_parts (is_nd c) (list_any is_nd cs) none in
    and_from _ _ (not_from_false (is_nd c) parts.0) (all_others cs parts.1)

labelled_some : (p : ℕ → Bool) (q : List ℕ → Bool) → q [] ≡ false → ¬ (IsLabelled p q [])
labelled_some p q none h = at h.lead h.label h.whole h.labels
  where
    at : (lead label : List ℕ) → [] ≡ lead ++ (label ++ (h.mark ++ h.gap)) → q label ≡ true → ⊥
    at [] [] e l = true≢false (sym l ∙ none)
    at [] (x ∷ label) e l = cc
    at (x ∷ lead) label e l = cc

pub not_nothing : (n : ℕ) (signed : Bool) → ¬ (Announces [] n signed)
not_nothing n signed (by_parameter alike few unsigned) = true≢false (sym alike)
not_nothing n signed (by_word h few) = labelled_some is_lead (is_word_of words) refl h
not_nothing n signed (by_sign h few) = labelled_some is_lead (is_word_of signs) refl h
not_nothing n signed (by_dashes all some few is_signed) = omega (arith, some)
not_nothing n signed (by_pause h few) = labelled_some is_blank (is_word_of pauses) refl h
not_nothing n signed (by_commas h few) = labelled_some is_blank are_commas refl h
