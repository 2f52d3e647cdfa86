-- The grammar's steps over classes of digits.
use Rattle.std.proofs.Common.{drop, get_or, le-leb, length-drop, ◌≡◌, ◌≤◌, ◌<◌, ◌+◌, ◌*◌, ◌∙◌, ◌++◌, ◌||◌, ◌⊎◌, inl, inr, ℕ, zero, suc, true, false, List, [], ◌∷◌, map, length, Option, Some, None, refl, sym, ap, arith, ne_eqb, nat_le, ◌==◌, append_assoc, append-nil}
use Rattle.std.proofs.lemmas.Bool.Decides.{nat_tests}
use Rattle.std.proofs.lemmas.Bool.{or_cases, both_ways, false≢true}
use Rattle.std.proofs.lemmas.List.{map-append, nil_from_length, drop_more}
use Rattle.std.proofs.lemmas.List.Folds.{list_any-append}
use Rattle.std.specs.Char.{is_whitespace}
use Rattle.std.specs.Int.{is_in_range}
use Rattle.std.specs.List.{list_any}
use Rattle.regex_class.proofs.RangesLemmas.{in_range_tells, in_ranges-nil, in_ranges-cons, in_ranges-append, or-false}
use Rattle.regex_class.specs.Ranges.{Range, in_range, in_ranges, HasExactly, IsCanonical, rises_from}
use Rattle.regex_class.specs.declared.Class.{Class}
use Rattle.regex_syntax.specs.Reading.{Text, skip, skip_from, first, ◌>>=◌, take_run, take_up_to}
use Rattle.regex_syntax.specs.Brackets.{Nested, flat, bracket, set_item, set_items, range, member, single, posix, operator, item_or, bracket_start, after_hyphen, unite, union, operations}
use Rattle.regex_syntax.specs.Sets.{Set, is_member, negate_if, case_fold}
use Rattle.regex_syntax.proofs.ReadingLemmas.{skip_from-cons}
use Rattle.regex_syntax.proofs.SetLemmas.{member_fits}
use Rattle.phone_plain.specs.Classes.{IsMember, AreMembers, IsClass, AreDigits}
use Rattle.phone_plain.specs.Bytes.{begins, follows_member, is_digit}
use Rattle.phone_plain.specs.Grammar.{verbose}

pub not_white : (c : ℕ) → 48 ≤ c → c ≤ 57 → is_whitespace c ≡ false
not_white c low high = grind (arith, nat_tests)

-- neither white space nor a comment begins with a digit
pub skip_digit : (c : ℕ) (t : Text) → 48 ≤ c → c ≤ 57 → skip_from false (c ∷ t) ≡ c ∷ t
skip_digit c t low high =
    skip_from-cons false c t ∙ (rw (not_white c low high, ne_eqb c 35 (omega arith)) refl)

skip_hyphen : (t : Text) → skip_from false (45 ∷ t) ≡ 45 ∷ t
unfolding skip_from
skip_hyphen t = refl

skip_close : (t : Text) → skip_from false (93 ∷ t) ≡ 93 ∷ t
unfolding skip_from
skip_close t = refl

-- a digit that is no end of a range
lone_digit : (c d : ℕ) (t : Text) → 48 ≤ c → c ≤ 57 → skip_from false (d ∷ t) ≡ d ∷ t → (d == 45) ≡ false →
    set_item verbose (c ∷ d ∷ t) ≡ Some ((λ x. x == c), d ∷ t)
unfolding set_item member single is_member skip first
lone_digit c d t low high here no_hyphen =
    rw (ne_eqb c 92 (omega arith), here, no_hyphen, ne_eqb (suc (length t)) 0 (omega arith)) refl

digit_range : (a b : ℕ) (t : Text) → 48 ≤ a → a ≤ 57 → 48 ≤ b → b ≤ 57 → nat_le a b ≡ true →
    set_item verbose (a ∷ 45 ∷ b ∷ t) ≡ Some (is_in_range a b, t)
unfolding set_item member range is_member skip first after_hyphen take_run take_up_to
digit_range a b t la ha lb hb le =
    rw (ne_eqb a 92 (omega arith), skip_hyphen, ne_eqb (suc (suc (length t))) 0 (omega arith), not_white b lb hb, ne_eqb b 35 (omega arith), ne_eqb b 93 (omega arith), ne_eqb b 45 (omega arith), skip_digit b t lb hb, ne_eqb b 92 (omega arith), le)
    refl

item_step : (m c : ℕ) (t rest : Text) (set : Set) → 48 ≤ c → c ≤ 57 → set_item verbose (c ∷ t) ≡ Some (set, rest) →
    set_items verbose (suc m) (c ∷ t) ≡ (set_items verbose m rest >>= λ (others, end). Some (flat set ∷ others, end))
unfolding set_items operator posix item_or skip first
item_step m c t rest set low high is =
    rw (skip_digit c t low high, ne_eqb c 93 (omega arith), ne_eqb 38 c (omega arith), ne_eqb 45 c (omega arith), ne_eqb 126 c (omega arith), ne_eqb 91 c (omega arith), ne_eqb c 91 (omega arith), is)
    refl

one_is_itself : (c x : ℕ) → (x == c) ≡ in_range (c, c) x
unfolding in_range
one_is_itself c x = grind (arith, nat_tests)

lone_member_by : (text : Text) (c d : ℕ) (t : Text) → text ≡ c ∷ d ∷ t → 48 ≤ c → c ≤ 57 → ((48 ≤ d) × (d ≤ 57)) ⊎ (d ≡ 93) →
    IsMember text (c, c) (d ∷ t)
lone_member_by text c d t e low high (inl digit) = record {
  set = λ x. x == c;
  same = one_is_itself c;
  low = low;
  high = high;
  goes_on = rw e (omega arith);
  reads = λ m. rw e (item_step m c (d ∷ t) (d ∷ t) _ low high (lone_digit c d t low high (skip_digit d t digit.0 digit.1) (ne_eqb d 45 (omega arith))));
}
lone_member_by text c d t e low high (inr close) = record {
  set = λ x. x == c;
  same = one_is_itself c;
  low = low;
  high = high;
  goes_on = rw e (omega arith);
  reads = λ m. rw (e, close) (item_step m c (93 ∷ t) (93 ∷ t) _ low high (lone_digit c 93 t low high (skip_close t) refl));
}

pub lone_member : (text rest : Text) (c : ℕ) → text ≡ c ∷ rest → 48 ≤ c → c ≤ 57 → begins follows_member rest ≡ true → IsMember text (c, c) rest
lone_member text [] c e low high follows = absurd (false≢true follows)
lone_member text (d ∷ t) c e low high follows =
    lone_member_by text c d t e low high (elim (or_cases (is_digit d) (d == 93) follows) [ inl digit ↦ inl (grind (arith, nat_tests), grind (arith, nat_tests)) | inr close ↦ inr (grind (arith, nat_tests)) ])

pub range_member : (text : Text) (a b : ℕ) (t : Text) → text ≡ a ∷ 45 ∷ b ∷ t → 48 ≤ a → a ≤ 57 → 48 ≤ b → b ≤ 57 → nat_le a b ≡ true →
    IsMember text (a, b) t
unfolding in_range
range_member text a b t e la ha lb hb le = record {
  set = is_in_range a b;
  same = λ x. refl;
  low = la;
  high = hb;
  goes_on = rw e (omega arith);
  reads = λ m. rw e (item_step m a (45 ∷ b ∷ t) t _ la ha (digit_range a b t la ha lb hb le));
}

no_member : (c : ℕ) → in_ranges [] c ≡ true → (48 ≤ c) × (c ≤ 57)
no_member c h = absurd (both_ways _ (in_ranges-nil c) h)

pub no_members : (text : Text) → AreMembers text [] text
unfolding in_ranges
no_members text = record {
  parts = [];
  same = λ c. refl;
  digits = no_member;
  goes_on = omega arith;
  reads = λ n le. (n, le, refl);
}

unite_cons : (leading : List (Nested Set)) (part : Nested Set) (o : Option (List (Nested Set) × Text)) →
    unite leading (o >>= λ (others, end). Some (part ∷ others, end)) ≡ unite (leading ++ part ∷ []) o
unfolding unite
unite_cons leading part None = refl
unite_cons leading part (Some found) = ap (λ all. Some (union all, found.1)) (sym (append_assoc leading (part ∷ []) found.0))

digits_more : (rs : List Range) (r : Range) → AreDigits rs → 48 ≤ r.0 → r.1 ≤ 57 → AreDigits (rs ++ r ∷ [])
digits_more rs r all low high c h = elim (or_cases _ _ (sym (in_ranges-append rs (r ∷ []) c) ∙ h)) [
  | inl earlier ↦ all c earlier
  | inr last ↦ (let here : in_range r c ≡ true = sym (in_ranges-cons r [] c ∙ ap (λ b. in_range r c || b) (in_ranges-nil c) ∙ or-false _) ∙ last in
      let told = in_range_tells r c in (grind (arith, told), grind (arith, told)))
]

same_more : (parts : List (Nested Set)) (rs : List Range) (set : Set) (r : Range) →
    ((c : ℕ) → list_any (λ set. set c) (map (λ part. part.value) parts) ≡ in_ranges rs c) → ((c : ℕ) → set c ≡ in_range r c) → (c : ℕ) →
    list_any (λ set. set c) (map (λ part. part.value) (parts ++ flat set ∷ [])) ≡ in_ranges (rs ++ r ∷ []) c
same_more parts rs set r all one c =
    rw (map-append, list_any-append, all c, in_ranges-append rs (r ∷ []) c, in_ranges-cons r [] c, in_ranges-nil c, one c) refl

more_reads : (text mid rest : Text) (parts : List (Nested Set)) (set : Set) → length rest < length mid →
    ((n : ℕ) → 2 * length text + 1 ≤ n → (m : ℕ) × (2 * length mid + 1 ≤ m) × (unite [] (set_items verbose n text) ≡ unite parts (set_items verbose m mid))) →
    ((m : ℕ) → set_items verbose (suc m) mid ≡ (set_items verbose m rest >>= λ (others, end). Some (flat set ∷ others, end))) →
    (n : ℕ) → 2 * length text + 1 ≤ n → (m : ℕ) × (2 * length rest + 1 ≤ m) × (unite [] (set_items verbose n text) ≡ unite (parts ++ flat set ∷ []) (set_items verbose m rest))
more_reads text mid rest parts set shorter all one n le = go (all n le)
  where
    go : (m : ℕ) × (2 * length mid + 1 ≤ m) × (unite [] (set_items verbose n text) ≡ unite parts (set_items verbose m mid)) →
        (m : ℕ) × (2 * length rest + 1 ≤ m) × (unite [] (set_items verbose n text) ≡ unite (parts ++ flat set ∷ []) (set_items verbose m rest))
    go (zero, enough, is) = absurd (omega (arith, enough))
    go (suc m, enough, is) = (m, omega (arith, enough, shorter), is ∙ ap (unite parts) (one m) ∙ unite_cons parts (flat set) (set_items verbose m rest))

pub more_members : (text mid rest : Text) (rs : List Range) (r : Range) → AreMembers text rs mid → IsMember mid r rest →
    AreMembers text (rs ++ r ∷ []) rest
more_members text mid rest rs r all one = record {
  parts = all.parts ++ flat one.set ∷ [];
  same = same_more all.parts rs one.set r all.same one.same;
  digits = digits_more rs r all.digits one.low one.high;
  goes_on = omega (arith, all.goes_on, one.goes_on);
  reads = more_reads text mid rest all.parts one.set one.goes_on all.reads one.reads;
}

items_close : (m : ℕ) (rest : Text) → set_items verbose (suc m) (93 ∷ rest) ≡ Some ([], 93 ∷ rest)
unfolding set_items skip skip_from first
items_close m rest = refl

unite_close : (m : ℕ) (parts : List (Nested Set)) (rest : Text) → 1 ≤ m →
    unite parts (set_items verbose m (93 ∷ rest)) ≡ Some (union parts, 93 ∷ rest)
unfolding unite
unite_close zero parts rest some = absurd (omega (arith, some))
unite_close (suc m) parts rest some = rw (items_close, append-nil) refl

abbrev closed : List (Nested Set) → Nested Set
closed parts = record { value = (union parts).value; depth = (union parts).depth + 1 }

bracket_reads : (n c : ℕ) (t rest : Text) (parts : List (Nested Set)) → 48 ≤ c → c ≤ 57 →
    unite [] (set_items verbose (suc n) (c ∷ t)) ≡ Some (union parts, 93 ∷ rest) →
    bracket verbose (suc (suc n)) (91 ∷ c ∷ t) ≡ Some (closed parts, rest)
unfolding bracket bracket_start operations skip first take_run take_up_to negate_if case_fold
bracket_reads n c t rest parts low high is =
    rw (skip_digit c t low high, ne_eqb c 94 (omega arith), ne_eqb c 45 (omega arith), ne_eqb c 93 (omega arith), is) refl

at_front : (n c : ℕ) (t text mid rest : Text) (rs : List Range) (all : AreMembers text rs mid) → text ≡ c ∷ t → 48 ≤ c → c ≤ 57 →
    mid ≡ 93 ∷ rest → 2 * length text + 3 ≤ n → bracket verbose n (91 ∷ text) ≡ Some (closed all.parts, rest)
at_front zero c t text mid rest rs all e low high close le = absurd (omega (arith, le))
at_front (suc zero) c t text mid rest rs all e low high close le = absurd (omega (arith, le))
at_front (suc (suc n)) c t text mid rest rs all e low high close le = go (all.reads (suc n) (omega (arith, le)))
  where
    go : (m : ℕ) × (2 * length mid + 1 ≤ m) × (unite [] (set_items verbose (suc n) text) ≡ unite all.parts (set_items verbose m mid)) →
        bracket verbose (suc (suc n)) (91 ∷ text) ≡ Some (closed all.parts, rest)
    go (m, enough, is) =
        let whole : unite [] (set_items verbose (suc n) text) ≡ Some (union all.parts, 93 ∷ rest) =
        is ∙ ap (λ u. unite all.parts (set_items verbose m u)) close ∙ unite_close m all.parts rest (omega (arith, enough)) in
        rw e (bracket_reads n c t rest all.parts low high (rw e at whole))

digits_kept : (class : Class) (rs : List Range) → AreDigits rs → HasExactly class.ranges.items (in_ranges rs) → AreDigits class.ranges.items
digits_kept class rs all exact c h = all c (sym (exact c (member_fits class c h)) ∙ h)

pub class_read : (c : ℕ) (t text mid rest : Text) (rs : List Range) (class : Class) → AreMembers text rs mid → text ≡ c ∷ t → 48 ≤ c → c ≤ 57 →
    mid ≡ 93 ∷ rest → HasExactly class.ranges.items (in_ranges rs) → IsClass text class rest
class_read c t text mid rest rs class all e low high close exact = record {
  members = closed all.parts;
  exact = λ x le. exact x le ∙ sym (all.same x);
  digits = digits_kept class rs all.digits exact;
  goes_on = (let shorter : length rest < length mid = rw close (omega arith) in omega (arith, shorter, all.goes_on));
  reads = λ n le. at_front n c t text mid rest rs all e low high close le;
}

pub rises_more : (rs : List Range) (i n : ℕ) → i < length rs → n ≤ (get_or rs i (0, 0)).0 →
    (get_or rs i (0, 0)).0 ≤ (get_or rs i (0, 0)).1 → (get_or rs i (0, 0)).1 ≤ 57 →
    rises_from n (drop i rs) ≡ rises_from ((get_or rs i (0, 0)).1 + 2) (drop (i + 1) rs)
unfolding rises_from
rises_more rs i n within low order high =
    let r = get_or rs i (0, 0) in
    rw (drop_more rs i (0, 0) within, le-leb n r.0 low, le-leb r.0 r.1 order, le-leb r.1 0x10_FFFF (omega arith)) refl

pub rises_all : (rs : List Range) (i n : ℕ) → length rs ≤ i → rises_from 0 rs ≡ rises_from n (drop i rs) → IsCanonical rs
unfolding rises_from
rises_all rs i n past e = let none : drop i rs ≡ [] = nil_from_length (drop i rs) (simp length-drop (omega arith)) in e ∙ (rw none refl)
