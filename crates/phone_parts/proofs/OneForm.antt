-- A text is an extension of at most one form, with one text of digits.
use Rattle.std.proofs.Common.{◌≡◌, ◌⊎◌, inl, inr, ⊎_elim, ℕ, ◌≤◌, ◌==◌, Some, Bool, true, false, not, ◌&&◌, ◌||◌, List, [], ◌∷◌, ◌++◌, length, codes, append_assoc, append-nil, eqb-true, refl, ap, sym, ◌∙◌, true≢false, arith}
use Rattle.std.proofs.lemmas.Bool.{and_parts, and_from, false_from_ne_true, not-true, not_from_false, or_cases, or_from, or_left, or_right}
use Rattle.std.proofs.lemmas.List.{append_cancel_right}
use Rattle.std.proofs.lemmas.List.Folds.{list_all-append}
use Rattle.std.specs.List.{list_any, list_all}
use Rattle.ucd_case.proofs.Computing.{ucd_case}
use Rattle.ucd_case.specs.CaseFolding.{simple_fold}
use Rattle.ucd_category.proofs.Computing.{ucd_category}
use Rattle.phone_chars.specs.Characters.{is_nd, same_fold}
use Rattle.phone_parts.specs.Suffixes.{IsSuffix, IsOptional, IsEnding, IsParameter, IsNumberSigned, IsIndicated, indicators, is_lead, is_mark, is_gap, is_sign, is_dash}
use Rattle.phone_parts.specs.Texts.{begins, ends, is_like}
use Rattle.phone_parts.specs.declared.suffix.Form.{Form}
use Rattle.phone_parts.specs.declared.suffix.Form.TheVariants.{Parameter, Indicated, NumberSign}
use Rattle.phone_parts.proofs.Cores.{ends-push}
use Rattle.phone_parts.proofs.Endings.{AreApart, members_apart, apart_members, mark_nd, gap_nd, member_passes, is_35, nd_35, none_at_run, none_at_all, parameter_cut, number_signed_cut}
use Rattle.phone_parts.proofs.Ends.{all_wider, ends_wider, ends-append, ends-append_run, no_run_at_end, ends-not, longest_end_same, cut_after_run}
use Rattle.phone_parts.proofs.Foldings.{IsFolded, nd_folded, not_in_folded, length-like, begins-folded, ends-folded, begins-like, ends-like, like_one}

-- ---- what the indicators begin and end in

-- dashes and number signs fold to themselves
dash_folded : IsFolded is_dash
unfolding ucd_case
dash_folded c = member_passes (λ x. is_dash (simple_fold x)) (45 ∷ 32 ∷ []) c refl

sign_folded : IsFolded is_sign
unfolding ucd_case
sign_folded c e = ap (λ x. is_sign (simple_fold x)) (is_35 c e)

-- what a character's folding is
abbrev folds_to_dash : ℕ → Bool
folds_to_dash c = is_dash (simple_fold c)

abbrev folds_to_digit : ℕ → Bool
folds_to_digit c = is_nd (simple_fold c)

abbrev folds_to_sign : ℕ → Bool
folds_to_sign c = is_sign (simple_fold c)

abbrev folds_to_semicolon : ℕ → Bool
folds_to_semicolon c = same_fold c 59

-- no indicator begins in a dash or a digit, or ends in a digit
abbrev apart_from_digits : List ℕ → Bool
apart_from_digits w = not (begins folds_to_dash w) && (not (begins folds_to_digit w) && not (ends folds_to_digit w))

indicators_apart : list_all apart_from_digits indicators ≡ true
unfolding ucd_case ucd_category
indicators_apart = refl

-- an indicator that begins in a semicolon or ends in a number sign is one character
abbrev one_if_sign : List ℕ → Bool
one_if_sign w = (not (begins folds_to_semicolon w) && not (ends folds_to_sign w)) || (length w == 1)

indicators_one_if_sign : list_all one_if_sign indicators ≡ true
unfolding ucd_case
indicators_one_if_sign = refl

-- the empty text is no indicator
nothing_announces : list_any (is_like []) indicators ≡ false
nothing_announces = refl

pub word_some : (word : List ℕ) → list_any (is_like word) indicators ≡ true → ¬ (word ≡ [])
word_some word h e = true≢false (sym h ∙ ap (λ t. list_any (is_like t) indicators) e ∙ nothing_announces)

-- the same of a text that is like an indicator
record IsApartWord (word : List ℕ) : Type 0 where
  pub no_dash : begins is_dash word ≡ false
  pub no_digit : begins is_nd word ≡ false
  pub no_last_digit : ends is_nd word ≡ false

word_apart : (word : List ℕ) → list_any (is_like word) indicators ≡ true → IsApartWord word
word_apart word h =
    let one = like_one apart_from_digits word indicators h indicators_apart in
    let dash = and_parts (not (begins folds_to_dash one.word)) (not (begins folds_to_digit one.word) && not (ends folds_to_digit one.word)) one.holds in
    let digits = and_parts (not (begins folds_to_digit one.word)) (not (ends folds_to_digit one.word)) dash.1 in
    record {
      no_dash = begins-like is_dash dash_folded word one.word one.like (not-true _ dash.0);
      no_digit = begins-like is_nd nd_folded word one.word one.like (not-true _ digits.0);
      no_last_digit = ends-like is_nd nd_folded word one.word one.like (not-true _ digits.1);
    }

-- a text like an indicator is one character where it begins in a semicolon or ends in a number sign
word_of_one : (word : List ℕ) → list_any (is_like word) indicators ≡ true → (begins folds_to_semicolon word ≡ true) ⊎ (ends folds_to_sign word ≡ true) →
    length word ≡ 1
word_of_one word h sign =
    let one = like_one one_if_sign word indicators h indicators_one_if_sign in
    ⊎_elim
    (λ none.
    let parts = and_parts (not (begins folds_to_semicolon one.word)) (not (ends folds_to_sign one.word)) none in
    ⊎_elim
    (λ e. absurd (true≢false (sym e ∙ begins-folded (λ x. x == simple_fold 59) word one.word one.like ∙ not-true _ parts.0)))
    (λ e. absurd (true≢false (sym e ∙ ends-folded is_sign word one.word one.like ∙ not-true _ parts.1)))
    sign)
    (λ single. length-like word one.word one.like ∙ eqb-true (length one.word) 1 single)
    (or_cases (not (begins folds_to_semicolon one.word) && not (ends folds_to_sign one.word)) (length one.word == 1) one.holds)

-- one that ends in a number sign is a number sign
sign_alone : (word : List ℕ) → length word ≡ 1 → ends is_sign word ≡ true → word ≡ 35 ∷ []
sign_alone [] e last = absurd (true≢false (sym last))
sign_alone (x ∷ []) e last = ap (λ c. c ∷ []) (is_35 x last)
sign_alone (x ∷ y ∷ word) e last = absurd (omega (arith, e))

word_sign : (word : List ℕ) → list_any (is_like word) indicators ≡ true → ends is_sign word ≡ true → word ≡ 35 ∷ []
word_sign word h last = sign_alone word (word_of_one word h (inr (ends_wider is_sign folds_to_sign sign_folded word last))) last

-- ---- an extension of the indicated form, cut before its digits

lead_nd : AreApart is_lead is_nd
unfolding ucd_category
lead_nd = apart_members is_nd (32 ∷ 0xA0 ∷ 9 ∷ 44 ∷ []) refl

-- members of one of two sets apart, and of the other: there are none
run_nil : (p q : ℕ → Bool) → AreApart p q → (run : List ℕ) → list_all p run ≡ true → list_all q run ≡ true → run ≡ []
run_nil p q apart [] in_p in_q = refl
run_nil p q apart (x ∷ run) in_p in_q =
    absurd (true≢false (sym (and_parts (p x) (list_all p run) in_p).0 ∙ apart x (and_parts (q x) (list_all q run) in_q).0))

-- where all before the digits ends in a number sign, that is the indicator, and before it stands the lead
lead_before_sign : (lead word mark gap t : List ℕ) → list_any (is_like word) indicators ≡ true → list_all is_mark mark ≡ true → list_all is_gap gap ≡ true →
    ((lead ++ word) ++ mark) ++ gap ≡ t ++ 35 ∷ [] → lead ≡ t
lead_before_sign lead word mark gap t announces marks gaps e =
    let no_gap : gap ≡ [] = no_run_at_end is_gap ((lead ++ word) ++ mark) gap t 35 gaps refl e in
    let marked : (lead ++ word) ++ mark ≡ t ++ 35 ∷ [] = sym (append-nil ((lead ++ word) ++ mark)) ∙ ap (λ g. ((lead ++ word) ++ mark) ++ g) (sym no_gap) ∙ e in
    let no_mark : mark ≡ [] = no_run_at_end is_mark (lead ++ word) mark t 35 marks refl marked in
    let announced : lead ++ word ≡ t ++ 35 ∷ [] = sym (append-nil (lead ++ word)) ∙ ap (λ m. (lead ++ word) ++ m) (sym no_mark) ∙ marked in
    let last : ends is_sign word ≡ true = sym (ends-append is_sign lead word (word_some word announces)) ∙ ap (ends is_sign) announced ∙ ends-push is_sign t 35 in
    append_cancel_right lead t (35 ∷ []) (ap (λ u. lead ++ u) (sym (word_sign word announces last)) ∙ announced)

-- an optional number sign is there or not
optional_sign : (t : List ℕ) → IsOptional is_sign t → (t ≡ []) ⊎ (t ≡ 35 ∷ [])
optional_sign [] h = inl refl
optional_sign (x ∷ []) h = inr (ap (λ c. c ∷ []) (is_35 x (and_parts (is_sign x) true h.only).0))
optional_sign (x ∷ y ∷ t) h = absurd (omega (arith, h.few))

-- a text cut before digits: what stands before them ends in no digit; a number sign there is the indicator, so that only the lead stands before it
record IndicatedCut (w d : List ℕ) : Type 0 where
  pub before : List ℕ
  pub sign : List ℕ
  pub whole : w ≡ before ++ (d ++ sign)
  pub no_digit : ends (λ c. not (is_nd c)) before ≡ true
  pub lead : (t : List ℕ) → before ≡ t ++ 35 ∷ [] → list_all is_lead t ≡ true
  pub digits : list_all is_nd d ≡ true
  pub signs : (sign ≡ []) ⊎ (sign ≡ 35 ∷ [])

-- the characters of a run in one of two sets apart are outside the other
run_outside : (p q : ℕ → Bool) → AreApart p q → (run : List ℕ) → list_all p run ≡ true → list_all (λ c. not (q c)) run ≡ true
run_outside p q apart = all_wider p (λ c. not (q c)) (λ c in_p. not_from_false (q c) (false_from_ne_true (q c) (λ in_q. true≢false (sym in_p ∙ apart c in_q))))

indicated_cut : (w d : List ℕ) → IsIndicated w d → IndicatedCut w d
indicated_cut w d h =
    let word = h.announced.word in
    let end = h.announced.ends in
    let after = d ++ end.sign in
    let some = word_some word h.announced.announces in
    let word_last : ends (λ c. not (is_nd c)) word ≡ true = ends-not is_nd word some (word_apart word h.announced.announces).no_last_digit in
    let announced_last : ends (λ c. not (is_nd c)) (h.lead ++ word) ≡ true = ends-append (λ c. not (is_nd c)) h.lead word some ∙ word_last in
    let marked_last =
    ends-append_run (λ c. not (is_nd c)) (h.lead ++ word) end.mark announced_last (run_outside is_mark is_nd mark_nd end.mark end.marks.only) in
    let nested : w ≡ h.lead ++ (word ++ (end.mark ++ (end.gap ++ after))) = h.whole ∙ ap (λ t. h.lead ++ t) (h.announced.whole ∙ ap (λ t. word ++ t) end.whole) in
    record {
      before = ((h.lead ++ word) ++ end.mark) ++ end.gap;
      sign = end.sign;
      whole =
          nested ∙ sym (append_assoc h.lead word (end.mark ++ (end.gap ++ after))) ∙ sym (append_assoc (h.lead ++ word) end.mark (end.gap ++ after))
          ∙ sym (append_assoc ((h.lead ++ word) ++ end.mark) end.gap after);
      no_digit = ends-append_run (λ c. not (is_nd c)) ((h.lead ++ word) ++ end.mark) end.gap marked_last (run_outside is_gap is_nd gap_nd end.gap end.gaps);
      lead = λ t e. ap (list_all is_lead) (sym (lead_before_sign h.lead word end.mark end.gap t h.announced.announces end.marks.only end.gaps e)) ∙ h.leads;
      digits = end.digits.only;
      signs = optional_sign end.sign end.signs;
    }

-- one cut ends in a number sign behind the digits, the other has none there: no cut has digits
no_digits_by_number_sign : (w d e : List ℕ) (g : IndicatedCut w d) (h : IndicatedCut w e) → g.before ++ d ≡ (h.before ++ e) ++ 35 ∷ [] → d ≡ e
no_digits_by_number_sign w d e g h same =
    let no_d : d ≡ [] = no_run_at_end is_nd g.before d (h.before ++ e) 35 g.digits nd_35 same in
    let before : g.before ≡ (h.before ++ e) ++ 35 ∷ [] = sym (append-nil g.before) ∙ ap (λ t. g.before ++ t) (sym no_d) ∙ same in
    let leads = and_parts (list_all is_lead h.before) (list_all is_lead e) (sym (list_all-append is_lead h.before e) ∙ g.lead (h.before ++ e) before) in
    no_d ∙ sym (run_nil is_lead is_nd lead_nd e leads.1 h.digits)

-- the digits of a text of the indicated form
cut_digits_same : (w d e : List ℕ) → IndicatedCut w d → IndicatedCut w e → d ≡ e
cut_digits_same w d e g h = at g.signs h.signs
  where
    whole : g.before ++ (d ++ g.sign) ≡ h.before ++ (e ++ h.sign)
    whole = sym g.whole ∙ h.whole

    without_sign : (before digits sign : List ℕ) → sign ≡ [] → before ++ (digits ++ sign) ≡ before ++ digits
    without_sign before digits sign e = ap (λ t. before ++ (digits ++ t)) e ∙ ap (λ t. before ++ t) (append-nil digits)

    number_signed : (before digits sign : List ℕ) → sign ≡ 35 ∷ [] → before ++ (digits ++ sign) ≡ (before ++ digits) ++ 35 ∷ []
    number_signed before digits sign e = ap (λ t. before ++ (digits ++ t)) e ∙ sym (append_assoc before digits (35 ∷ []))

    cut_same : g.before ++ d ≡ h.before ++ e → d ≡ e
    cut_same same = longest_end_same is_nd g.before h.before d e same g.digits h.digits g.no_digit h.no_digit

    at : (g.sign ≡ []) ⊎ (g.sign ≡ 35 ∷ []) → (h.sign ≡ []) ⊎ (h.sign ≡ 35 ∷ []) → d ≡ e
    at (inl s) (inl t) = cut_same (sym (without_sign g.before d g.sign s) ∙ whole ∙ without_sign h.before e h.sign t)
    at (inl s) (inr t) = no_digits_by_number_sign w d e g h (sym (without_sign g.before d g.sign s) ∙ whole ∙ number_signed h.before e h.sign t)
    at (inr s) (inl t) = sym (no_digits_by_number_sign w e d h g (sym (without_sign h.before e h.sign t) ∙ sym whole ∙ number_signed g.before d g.sign s))
    at (inr s) (inr t) =
        cut_same (append_cancel_right (g.before ++ d) (h.before ++ e) (35 ∷ []) (sym (number_signed g.before d g.sign s) ∙ whole ∙ number_signed h.before e h.sign t))

indicated_digits_same : (w d e : List ℕ) → IsIndicated w d → IsIndicated w e → d ≡ e
indicated_digits_same w d e g h = cut_digits_same w d e (indicated_cut w d g) (indicated_cut w e h)

-- ---- the forms apart

abbrev is_dash_or_digit : ℕ → Bool
is_dash_or_digit c = is_dash c || is_nd c

-- no text is of the indicated and of the number_signed form
indicated_not_number_signed : (w d e : List ℕ) → IsIndicated w d → ¬ (IsNumberSigned w e)
indicated_not_number_signed w d e g h = at g.announced.word refl
  where
    run : List ℕ
    run = h.lead ++ e

    all : list_all is_dash_or_digit (h.lead ++ e) ≡ true
    all =
        list_all-append is_dash_or_digit h.lead e
        ∙ and_from _ _
        (all_wider is_dash is_dash_or_digit (λ c. or_left (is_dash c) (is_nd c)) h.lead h.leads)
        (all_wider is_nd is_dash_or_digit (λ c. or_right (is_dash c) (is_nd c)) e h.digits.only)

    at : (word : List ℕ) → g.announced.word ≡ word → ⊥
    at [] f = word_some g.announced.word g.announced.announces f
    at (y ∷ word) f =
        let apart = word_apart g.announced.word g.announced.announces in
        let none : is_dash_or_digit y ≡ false = or_from (is_dash y) (is_nd y) (ap (begins is_dash) (sym f) ∙ apart.no_dash) (ap (begins is_nd) (sym f) ∙ apart.no_digit) in
        let cut : (h.lead ++ e) ++ 35 ∷ [] ≡ g.lead ++ y ∷ (word ++ g.announced.ending) =
        append_assoc h.lead e (35 ∷ []) ∙ sym h.whole ∙ g.whole ∙ ap (λ t. g.lead ++ t) (g.announced.whole ∙ ap (λ t. t ++ g.announced.ending) f) in
        let same : h.lead ++ e ≡ g.lead = cut_after_run is_dash_or_digit (h.lead ++ e) 35 g.lead y (word ++ g.announced.ending) cut all none in
        let leads = and_parts (list_all is_lead h.lead) (list_all is_lead e) (sym (list_all-append is_lead h.lead e) ∙ ap (list_all is_lead) same ∙ g.leads) in
        let nil : e ≡ [] = run_nil is_lead is_nd lead_nd e leads.1 h.digits.only in
        omega (arith, h.some_digits, ap length nil)

-- what neither a lead nor an ending has: a semicolon, an `e`
abbrev folds_to_e : ℕ → Bool
folds_to_e c = same_fold c 101

lead_semicolon : AreApart folds_to_semicolon is_lead
unfolding ucd_case
lead_semicolon = members_apart folds_to_semicolon (32 ∷ 0xA0 ∷ 9 ∷ 44 ∷ []) refl

mark_e : AreApart folds_to_e is_mark
unfolding ucd_case
mark_e = members_apart folds_to_e (58 ∷ 46 ∷ 0xFF0E ∷ []) refl

gap_e : AreApart folds_to_e is_gap
unfolding ucd_case
gap_e = members_apart folds_to_e (32 ∷ 0xA0 ∷ 9 ∷ 44 ∷ 45 ∷ []) refl

e_no_digit : is_nd (simple_fold 101) ≡ false
unfolding ucd_case ucd_category
e_no_digit = refl

digit_e : AreApart folds_to_e is_nd
digit_e c digit = false_from_ne_true (folds_to_e c) (λ e. true≢false (sym digit ∙ not_in_folded is_nd c 101 nd_folded e e_no_digit))

sign_e : AreApart folds_to_e is_sign
unfolding ucd_case
sign_e c e = ap folds_to_e (is_35 c e)

-- an ending does not begin as `ext` does
ending_no_e : (w d : List ℕ) → IsEnding w d → begins folds_to_e w ≡ false
ending_no_e w d h =
    let at_sign = none_at_all folds_to_e is_sign sign_e h.sign h.signs.only in
    let at_digits = none_at_run folds_to_e is_nd digit_e d h.sign h.digits.only at_sign in
    let at_gap = none_at_run folds_to_e is_gap gap_e h.gap (d ++ h.sign) h.gaps at_digits in
    ap (begins folds_to_e) h.whole ∙ none_at_run folds_to_e is_mark mark_e h.mark (h.gap ++ (d ++ h.sign)) h.marks.only at_gap

-- how a text of the parameter's form begins
record BeginsParameter (w : List ℕ) : Type 0 where
  pub first : ℕ
  pub second : ℕ
  pub rest : List ℕ
  pub whole : w ≡ first ∷ second ∷ rest
  pub is_semicolon : folds_to_semicolon first ≡ true
  pub is_e : folds_to_e second ≡ true

begins_parameter : (name d : List ℕ) → is_like name (codes ";ext=") ≡ true → BeginsParameter (name ++ d)
begins_parameter [] d h = absurd (true≢false (sym h))
begins_parameter (a ∷ []) d h = absurd (true≢false (sym (and_parts (folds_to_semicolon a) false h).1))
begins_parameter (a ∷ b ∷ name) d h =
    let semicolon = and_parts (folds_to_semicolon a) (is_like (b ∷ name) (codes "ext=")) h in
    record {
      first = a;
      second = b;
      rest = name ++ d;
      whole = refl;
      is_semicolon = semicolon.0;
      is_e = (and_parts (folds_to_e b) (is_like name (codes "xt=")) semicolon.1).0;
    }

-- no text is of the indicated and of the parameter's form
indicated_not_parameter : (w d e : List ℕ) → IsIndicated w d → ¬ (IsParameter w e)
indicated_not_parameter w d e g h = at_lead g.lead g.announced.word (sym b.whole ∙ sym h.whole ∙ whole) (none_at_all folds_to_semicolon is_lead lead_semicolon g.lead g.leads) g.announced.announces
  where
    b : BeginsParameter (h.name ++ e)
    b = begins_parameter h.name e h.named

    whole : w ≡ g.lead ++ (g.announced.word ++ g.announced.ending)
    whole = g.whole ∙ ap (λ t. g.lead ++ t) g.announced.whole

    at_word : (word : List ℕ) → b.first ∷ b.second ∷ b.rest ≡ word ++ g.announced.ending → list_any (is_like word) indicators ≡ true → ⊥
    at_word [] f announces = word_some [] announces refl
    at_word (y ∷ []) f announces =
        let ending : b.second ∷ b.rest ≡ g.announced.ending = cc in
        true≢false (sym b.is_e ∙ ap (begins folds_to_e) ending ∙ ending_no_e g.announced.ending d g.announced.ends)
    at_word (y ∷ z ∷ word) f announces =
        let first : b.first ≡ y = cc in
        omega (arith, word_of_one (y ∷ z ∷ word) announces (inl (ap folds_to_semicolon (sym first) ∙ b.is_semicolon)))

    at_lead : (lead word : List ℕ) → b.first ∷ b.second ∷ b.rest ≡ lead ++ (word ++ g.announced.ending) → begins folds_to_semicolon lead ≡ false →
        list_any (is_like word) indicators ≡ true → ⊥
    at_lead [] word f none announces = at_word word f announces
    at_lead (x ∷ lead) word f none announces =
        let first : b.first ≡ x = cc in
        true≢false (sym b.is_semicolon ∙ ap folds_to_semicolon first ∙ none)

-- ---- the form is one, and so are its digits

dash_semicolon : AreApart folds_to_semicolon is_dash
unfolding ucd_case
dash_semicolon = members_apart folds_to_semicolon (45 ∷ 32 ∷ []) refl

begins_in_run : (p q : ℕ → Bool) → AreApart p q → (run rest : List ℕ) → list_all q run ≡ true → 1 ≤ length run → begins p (run ++ rest) ≡ false
begins_in_run p q apart [] rest all some = absurd (omega arith)
begins_in_run p q apart (c ∷ run) rest all some = apart c (and_parts (q c) (list_all q run) all).0

-- no text is of the parameter's form and of the form with a number sign behind its digits
number_signed_not_parameter : (w d e : List ℕ) → IsNumberSigned w d → ¬ (IsParameter w e)
number_signed_not_parameter w d e g h =
    let b = begins_parameter h.name e h.named in
    true≢false
    (sym b.is_semicolon ∙ sym (ap (begins folds_to_semicolon) (h.whole ∙ b.whole)) ∙ ap (begins folds_to_semicolon) g.whole
    ∙ begins_in_run folds_to_semicolon is_dash dash_semicolon g.lead (d ++ 35 ∷ []) g.leads g.some_lead)

parameter_digits_same : (w d e : List ℕ) → IsParameter w d → IsParameter w e → d ≡ e
parameter_digits_same w d e g h = let same : Some d ≡ Some e = sym (parameter_cut w d g) ∙ parameter_cut w e h in cc

number_signed_digits_same : (w d e : List ℕ) → IsNumberSigned w d → IsNumberSigned w e → d ≡ e
number_signed_digits_same w d e g h = (number_signed_cut w d g).middle ∙ sym (number_signed_cut w e h).middle

-- an extension has one form, and one text of digits
pub suffix_same : (w : List ℕ) (f g : Form) (d e : List ℕ) → IsSuffix w f d → IsSuffix w g e → (f ≡ g) × (d ≡ e)
suffix_same w Parameter Parameter d e h k = (refl, parameter_digits_same w d e h k)
suffix_same w Parameter Indicated d e h k = absurd (indicated_not_parameter w e d k h)
suffix_same w Parameter NumberSign d e h k = absurd (number_signed_not_parameter w e d k h)
suffix_same w Indicated Parameter d e h k = absurd (indicated_not_parameter w d e h k)
suffix_same w Indicated Indicated d e h k = (refl, indicated_digits_same w d e h k)
suffix_same w Indicated NumberSign d e h k = absurd (indicated_not_number_signed w d e h k)
suffix_same w NumberSign Parameter d e h k = absurd (number_signed_not_parameter w d e h k)
suffix_same w NumberSign Indicated d e h k = absurd (indicated_not_number_signed w e d k h)
suffix_same w NumberSign NumberSign d e h k = (refl, number_signed_digits_same w d e h k)
