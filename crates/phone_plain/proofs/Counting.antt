-- The grammar's steps over operators of repetition.
use Rattle.std.proofs.Common.{◌≡◌, ◌≤◌, ◌<◌, ◌+◌, ◌-◌, ◌*◌, ◌^◌, ◌∙◌, ◌||◌, inl, inr, ℕ, zero, suc, true, false, [], ◌∷◌, length, Some, refl, sym, ap, arith, ne_eqb, le-leb, lt-ltb, le-ltb, ◌==◌, add-one}
use Rattle.std.proofs.lemmas.Bool.Decides.{nat_tests}
use Rattle.std.proofs.lemmas.Bool.{or_cases, false≢true}
use Rattle.std.specs.Char.{is_whitespace, digit_value}
use Rattle.std.specs.Char.{is_digit as is_radix_digit}
use Rattle.regex_hir.specs.declared.hir.Hir.{Hir}
use Rattle.regex_hir.specs.Meaning.{meaning, repeat}
use Rattle.regex_hir.specs.Re.{Re}
use Rattle.regex_syntax.proofs.BranchLemmas.{repetitions_end, repetitions_go, more_repetitions}
use Rattle.regex_syntax.proofs.GroupLemmas.{groups_repeat}
use Rattle.regex_syntax.proofs.ReadingLemmas.{skip_from-cons, skip_from-nil}
use Rattle.regex_syntax.specs.Brackets.{Nested}
use Rattle.regex_syntax.specs.Grammar.{bounds, counted_bounds, upper_bound, repetitions, with_repetitions, group_count}
use Rattle.regex_syntax.specs.Reading.{Text, skip, skip_from, first, ◌>>=◌, is_at, take_run, take_up_to, decimal}
use Rattle.regex_syntax.specs.Views.{is_never}
use Rattle.phone_automaton.proofs.Alike.{ascii_repeat}
use Rattle.phone_plain.proofs.Classing.{not_white, skip_digit}
use Rattle.phone_plain.specs.Bytes.{begins, is_digit, is_apart, is_operator, follows_part, follows_count}
use Rattle.phone_plain.specs.Counts.{IsCount, IsUpper, AreCounts, IsOperator, Repeats}
use Rattle.phone_plain.specs.Grammar.{verbose}
use Rattle.phone_plain.specs.declared.bounds.Times.{Times}
use Rattle.phone_plain.specs.declared.cursor.Cursor.{Cursor}

plain_byte : (c : ℕ) → follows_part c ≡ true → (is_whitespace c ≡ false) × ((c == 35) ≡ false)
plain_byte c h = (grind (arith, nat_tests), grind (arith, nat_tests))

no_operator : (c : ℕ) → follows_part c ≡ true → (c == 63 || (c == 42 || (c == 43 || c == 123))) ≡ false
no_operator c h = grind (arith, nat_tests)

-- what stands apart from the part before begins with no white space and no comment
pub apart_stays : (t : Text) → is_apart t ≡ true → skip_from false t ≡ t
apart_stays [] h = skip_from-nil false
apart_stays (c ∷ t) h = let b = plain_byte c h in skip_from-cons false c t ∙ (rw (b.0, b.1) refl)

-- nor with an operator of repetition
pub apart_ends : (t : Text) → is_apart t ≡ true → is_at "?*+{" t ≡ false
unfolding first
apart_ends [] h = refl
apart_ends (c ∷ t) h = no_operator c h

digit_is : (a : ℕ) → 48 ≤ a → a ≤ 57 → digit_value a ≡ a - 48
digit_is a low high = rw (le-ltb a 48 low, lt-ltb a 58 (omega arith)) refl

digit_tells : (a : ℕ) → 48 ≤ a → a ≤ 57 → is_radix_digit a 10 ≡ true
digit_tells a low high = rw (digit_is a low high) (lt-ltb (a - 48) 10 (omega arith))

comma_stays : (t : Text) → skip_from false (44 ∷ t) ≡ 44 ∷ t
unfolding skip_from
comma_stays t = refl

brace_stays : (t : Text) → skip_from false (125 ∷ t) ≡ 125 ∷ t
unfolding skip_from
brace_stays t = refl

module _ (c : ℕ) (t : Text) (stays : skip_from false (c ∷ t) ≡ c ∷ t) (white : is_whitespace c ≡ false) (no_digit : is_radix_digit c 10 ≡ false) where
  decimal_one : (a : ℕ) → 48 ≤ a → a ≤ 57 → decimal true (a ∷ c ∷ t) ≡ Some (a - 48, c ∷ t)
  unfolding decimal take_run take_up_to first skip
  decimal_one a low high =
      let plain : 0 + (a - 48) ≡ a - 48 = omega arith in
      rw (not_white a low high, digit_tells a low high, stays, no_digit, digit_is a low high, plain, lt-ltb (a - 48) (2 ^ 32) (omega arith), white) refl

  decimal_two : (a b : ℕ) → 48 ≤ a → a ≤ 57 → 48 ≤ b → b ≤ 57 → decimal true (a ∷ b ∷ c ∷ t) ≡ Some ((a - 48) * 10 + (b - 48), c ∷ t)
  unfolding decimal take_run take_up_to first skip
  decimal_two a b la ha lb hb =
      let plain : 0 + (a - 48) ≡ a - 48 = omega arith in
      rw (not_white a la ha, digit_tells a la ha, skip_digit b (c ∷ t) lb hb, digit_tells b lb hb, stays, no_digit, digit_is a la ha, digit_is b lb hb, plain, lt-ltb ((a - 48) * 10 + (b - 48)) (2 ^ 32) (omega arith), white) refl

starts_with_digit : (a : ℕ) → 48 ≤ a → a ≤ 57 → is_digit a ≡ true
starts_with_digit a low high = rw (le-leb 48 a low, le-leb a 57 high) refl

decimal_one_before : (a c : ℕ) (t : Text) → 48 ≤ a → a ≤ 57 → follows_count c ≡ true → decimal true (a ∷ c ∷ t) ≡ Some (a - 48, c ∷ t)
decimal_one_before a c t low high h = elim (or_cases (c == 44) (c == 125) h) [
  | inl e ↦ (let is : c ≡ 44 = grind (arith, nat_tests) in rw is (decimal_one 44 t (comma_stays t) refl refl a low high))
  | inr e ↦ (let is : c ≡ 125 = grind (arith, nat_tests) in rw is (decimal_one 125 t (brace_stays t) refl refl a low high))
]

decimal_two_before : (a b c : ℕ) (t : Text) → 48 ≤ a → a ≤ 57 → 48 ≤ b → b ≤ 57 → follows_count c ≡ true →
    decimal true (a ∷ b ∷ c ∷ t) ≡ Some ((a - 48) * 10 + (b - 48), c ∷ t)
decimal_two_before a b c t la ha lb hb h = elim (or_cases (c == 44) (c == 125) h) [
  | inl e ↦ (let is : c ≡ 44 = grind (arith, nat_tests) in rw is (decimal_two 44 t (comma_stays t) refl refl a b la ha lb hb))
  | inr e ↦ (let is : c ≡ 125 = grind (arith, nat_tests) in rw is (decimal_two 125 t (brace_stays t) refl refl a b la ha lb hb))
]

pub count_of_one : (text rest : Text) (a : ℕ) → text ≡ a ∷ rest → 48 ≤ a → a ≤ 57 → begins follows_count rest ≡ true → IsCount text (a - 48) rest
count_of_one text [] a e low high h = absurd (false≢true h)
count_of_one text (c ∷ t) a e low high h = record {
  starts = rw e (starts_with_digit a low high);
  goes_on = rw e (omega arith);
  reads = rw e (decimal_one_before a c t low high h);
}

pub count_of_two : (text mid rest : Text) (a b : ℕ) → text ≡ a ∷ mid → mid ≡ b ∷ rest → 48 ≤ a → a ≤ 57 → 48 ≤ b → b ≤ 57 →
    begins follows_count rest ≡ true → IsCount text ((a - 48) * 10 + (b - 48)) rest
count_of_two text mid [] a b e f la ha lb hb h = absurd (false≢true h)
count_of_two text mid (c ∷ t) a b e f la ha lb hb h = record {
  starts = rw e (starts_with_digit a la ha);
  goes_on = rw (e, f) (omega arith);
  reads = rw (e, f) (decimal_two_before a b c t la ha lb hb h);
}

pub no_upper : (least : ℕ) (text rest : Text) → text ≡ 125 ∷ rest → IsUpper least text least rest
unfolding upper_bound first
no_upper least text rest e = record {
  least_first = omega arith;
  goes_on = rw e (omega arith);
  reads = rw e refl;
}

digit_first : (text : Text) → begins is_digit text ≡ true → (skip_from false text ≡ text) × (is_at "}" text ≡ false)
unfolding first
digit_first [] h = absurd (false≢true h)
digit_first (c ∷ t) h =
    let low : 48 ≤ c = grind (arith, nat_tests) in
    let high : c ≤ 57 = grind (arith, nat_tests) in (skip_digit c t low high, ne_eqb c 125 (omega arith))

pub with_upper : (least most : ℕ) (text behind mid rest : Text) → text ≡ 44 ∷ behind → IsCount behind most mid → mid ≡ 125 ∷ rest → least ≤ most →
    IsUpper least text most rest
unfolding upper_bound first skip
with_upper least most text behind mid rest e count f le =
    let begin = digit_first behind count.starts in record {
      least_first = le;
      goes_on = (let shorter : length rest < length mid = rw f (omega arith) in rw e (omega (arith, shorter, count.goes_on)));
      reads = rw (e, begin.0, begin.1, count.reads, f) refl;
    }

pub counts_read : (text mid rest : Text) (times : Times) → IsCount text times.least mid → IsUpper times.least mid times.most rest → 1 ≤ times.most →
    AreCounts text times rest
unfolding counted_bounds first skip
counts_read text mid rest times count upper some = record {
  starts = count.starts;
  some = some;
  goes_on = omega (arith, count.goes_on, upper.goes_on);
  reads = λ apart. rw (count.reads, upper.reads, le-leb times.least times.most upper.least_first, apart_stays rest apart) refl;
}

pub optional_read : (text rest : Text) (times : Times) → text ≡ 63 ∷ rest → times.least ≡ 0 → times.most ≡ 1 → IsOperator text times rest
unfolding bounds first
optional_read text rest times e least most = record {
  some = rw most (omega arith);
  goes_on = rw e (omega arith);
  starts = rw e refl;
  reads = λ apart. rw (e, least, most) refl;
}

pub braced_read : (text behind rest : Text) (times : Times) → text ≡ 123 ∷ behind → AreCounts behind times rest → IsOperator text times rest
unfolding bounds first skip
braced_read text behind rest times e counts = record {
  some = counts.some;
  goes_on = rw e (omega (arith, counts.goes_on));
  starts = rw e refl;
  reads = λ apart. rw (e, (digit_first behind counts.starts).0, counts.reads apart) refl;
}

operator_stays : (c : ℕ) (t : Text) → is_operator c ≡ true → skip_from false (c ∷ t) ≡ c ∷ t
operator_stays c t h =
    let white : is_whitespace c ≡ false = grind (arith, nat_tests) in
    let hash : (c == 35) ≡ false = grind (arith, nat_tests) in skip_from-cons false c t ∙ (rw (white, hash) refl)

operator_first : (text : Text) → begins is_operator text ≡ true → (text ≡ skip true text) × (is_at "?*+{" text ≡ true)
unfolding first skip
operator_first [] h = absurd (false≢true h)
operator_first (c ∷ t) h = (sym (operator_stays c t h), grind (arith, nat_tests))

apart_lazy : (t : Text) → is_apart t ≡ true → is_at "?" t ≡ false
unfolding first
apart_lazy [] h = refl
apart_lazy (c ∷ t) h = grind (arith, nat_tests)

apart_skips : (t : Text) → is_apart t ≡ true → t ≡ skip true t
unfolding skip
apart_skips t h = sym (apart_stays t h)

pub not_repeated : (sub : Hir) (from : Cursor) → is_apart from.rest.now ≡ true → Repeats sub from sub from
unfolding with_repetitions
not_repeated sub from apart part same = record {
  whole = part;
  matches = same;
  same_groups = refl;
  goes_on = omega arith;
  kept = refl;
  reads = rw (repetitions_end verbose (length from.rest.now + 1) (length from.rest.now) part from.rest.now from.rest.now (add-one _) (apart_skips _ apart) (apart_ends _ apart)) refl;
}

module _ (part : Nested Re) (text rest : Text) (times : Times) (operator : IsOperator text times rest) (apart : is_apart rest ≡ true) where
  abbrev repeated_part : Nested Re
  repeated_part = record { value = repeat times.least (Some times.most) true part.value; depth = part.depth + 1 }

  after_operator : (m : ℕ) → 1 ≤ m → more_repetitions verbose m part (times.least, Some times.most, rest) ≡ Some (repeated_part, rest)
  after_operator zero some = absurd (omega (arith, some))
  after_operator (suc m) some =
      rw (apart_lazy rest apart) (repetitions_end verbose (suc m) m repeated_part rest rest refl (apart_skips rest apart) (apart_ends rest apart))

  one_operator : repetitions verbose (length text + 1) part text ≡ Some (repeated_part, rest)
  one_operator =
      let begin = operator_first text operator.starts in
      repetitions_go verbose (length text + 1) (length text) part text text (add-one _) begin.0 begin.1
      ∙ ap (λ b. b >>= more_repetitions verbose (length text) part) (operator.reads apart)
      ∙ after_operator (length text) (omega (arith, operator.goes_on))

never_none : (least most : ℕ) → 1 ≤ most → is_never least (Some most) ≡ false
never_none least most some = grind (arith, nat_tests)

groups_kept : (times : Times) (a : Re) → 1 ≤ times.most → group_count (repeat times.least (Some times.most) true a) ≡ group_count a
groups_kept times a some =
    (groups_repeat times.least (Some times.most) true a).count ∙ (rw (never_none times.least times.most some) refl)

pub repeated_once : (sub hir : Hir) (from to : Cursor) (times : Times) → IsOperator from.rest.now times to.rest.now → is_apart to.rest.now ≡ true →
    to.groups ≡ from.groups → meaning hir ≡ repeat times.least (Some times.most) true (meaning sub) → Repeats sub from hir to
unfolding with_repetitions
repeated_once sub hir from to times operator apart kept is part same = record {
  whole = repeated_part part from.rest.now to.rest.now times operator apart;
  matches = rw is (ascii_repeat times.least (Some times.most) true (meaning sub) part.value same);
  same_groups = groups_kept times part.value operator.some;
  goes_on = omega (arith, operator.goes_on);
  kept = kept;
  reads = rw (one_operator part from.rest.now to.rest.now times operator apart, kept) refl;
}
