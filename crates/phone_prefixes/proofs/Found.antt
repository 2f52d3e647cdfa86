-- The entry whose prefix is the longest that begins a text.
use Rattle.std.proofs.Common.{◌≡◌, ◌⊎◌, inl, inr, ℕ, zero, suc, ◌<◌, ◌≤◌, ◌&&◌, Bool, true, false, List, [], ◌∷◌, length, get_or, take, true≢false, refl, ap, ap₂, sym, subst, ◌∙◌, arith}
use Rattle.std.proofs.lemmas.Bool.{and_from, and_parts, cases_lt, le-leb, leb-true}
use Rattle.std.specs.Prelude.{nat_le}
use Rattle.std.specs.Char.{is_ascii_digit}
use Rattle.std.specs.List.{list_all}
use Rattle.std.specs.Str.{IsUtf8}
use Rattle.std.proofs.lemmas.List.Folds.{list_all_at}
use Rattle.std.proofs.lemmas.Str.{IsUtf8-from_ascii}
use Rattle.std.proofs.lemmas.Str.Ascii.{IsAscii-from_all}
use Rattle.phone_prefixes.specs.declared.span.Span.{Span}
use Rattle.phone_prefixes.specs.Marks.{Begins, IsLongestMark, Marks, MarksNone}
use Rattle.phone_prefixes.specs.Spans.{entries_in, entry_in, IsIndexed}
use Rattle.phone_prefixes.specs.Tables.{is_prefix, Entry, IsLongest, NoneBegins}
use Rattle.phone_prefixes.proofs.Entries.{at_place, counted, entry_of_mark, mark_of_entry}
use Rattle.phone_prefixes.proofs.Trees.{digit_small, some≢none}

-- what a prefix is
parts : (bytes : List ℕ) → is_prefix bytes ≡ true → ((nat_le 1 (length bytes) && nat_le (length bytes) 15) ≡ true) × (list_all is_ascii_digit bytes ≡ true)
parts bytes t = and_parts (nat_le 1 (length bytes) && nat_le (length bytes) 15) (list_all is_ascii_digit bytes) t

pub prefix_some : (bytes : List ℕ) → is_prefix bytes ≡ true → 0 < length bytes
prefix_some bytes t = let h = leb-true 1 (length bytes) (and_parts (nat_le 1 (length bytes)) (nat_le (length bytes) 15) (parts bytes t).0).0 in omega (arith, h)

pub prefix_short : (bytes : List ℕ) → is_prefix bytes ≡ true → length bytes ≤ 15
prefix_short bytes t = leb-true (length bytes) 15 (and_parts (nat_le 1 (length bytes)) (nat_le (length bytes) 15) (parts bytes t).0).1

pub prefix_digits : (bytes : List ℕ) → is_prefix bytes ≡ true → list_all is_ascii_digit bytes ≡ true
prefix_digits bytes t = (parts bytes t).1

-- a prefix of a length in range is digits
pub prefix_is : (bytes : List ℕ) → 0 < length bytes → length bytes ≤ 15 → list_all is_ascii_digit bytes ≡ is_prefix bytes
prefix_is bytes some short = sym (ap₂ (λ a b. a && b && list_all is_ascii_digit bytes) (le-leb 1 (length bytes) (omega (arith, some))) (le-leb (length bytes) 15 short))

-- a digit of digits
pub digit_at : (xs : List ℕ) (k d : ℕ) → list_all is_ascii_digit xs ≡ true → k < length xs → is_ascii_digit (get_or xs k d) ≡ true
digit_at xs k d all less = step (is_ascii_digit (get_or xs k d)) refl
  where
    step : (b : Bool) → is_ascii_digit (get_or xs k d) ≡ b → is_ascii_digit (get_or xs k d) ≡ true
    step true e = e
    step false e = absurd (true≢false (sym all ∙ list_all_at is_ascii_digit xs k d less e))

-- fewer digits
pub digits_take : (xs : List ℕ) (n : ℕ) → list_all is_ascii_digit xs ≡ true → list_all is_ascii_digit (take n xs) ≡ true
digits_take xs zero t = refl
digits_take [] (suc n) t = refl
digits_take (x ∷ xs) (suc n) t = let both = and_parts (is_ascii_digit x) _ t in and_from _ _ both.0 (digits_take xs n both.1)

-- a prefix is a text
pub prefix_utf8 : (bytes : List ℕ) → is_prefix bytes ≡ true → IsUtf8 bytes
prefix_utf8 bytes t = IsUtf8-from_ascii bytes (IsAscii-from_all bytes (λ k d less. let r = digit_small (get_or bytes k d) (digit_at bytes k d (prefix_digits bytes t) less) in omega (arith, r.1)))

module _ (bytes : List ℕ) (spans : List Span) (marks : Marks) (indexed : IsIndexed bytes spans marks) (text : List ℕ) where
  -- an entry's prefix is short
  short : (entry : Entry) (k : ℕ) → k < length (entries_in bytes spans) → get_or (entries_in bytes spans) k entry ≡ entry → length entry.prefix ≤ 15
  short entry k less is =
      let within : k < length spans = omega (arith, less, counted bytes spans marks indexed) in
      let d : Span = record { start = 0; tab = 0; end = 0 } in
      subst (λ (e : Entry). length e.prefix ≤ 15) (sym (at_place bytes spans marks indexed k d entry within) ∙ is) (prefix_short _ (indexed.stand k d within).prefix)

  pub none_begins : MarksNone marks text 15 → NoneBegins (entries_in bytes spans) text
  none_begins none entry (k, less, is) begins =
      some≢none (mark_of_entry bytes spans marks indexed entry k less is) (none entry.prefix begins (short entry k less is))

  pub is_longest : (k : ℕ) (d : Span) → IsLongestMark marks text 15 k → IsLongest (entries_in bytes spans) text (entry_in bytes (get_or spans k d))
  is_longest k d h = record {
    is = entry_of_mark bytes spans marks indexed h.front k d h.marked;
    begins = subst (λ front. Begins front text) (sym prefix) h.begins;
    longest = λ other there begins. longest other there.0 there.1 there.2 begins (cases_lt (length h.front) (length other.prefix));
  }
    where
      prefix : (entry_in bytes (get_or spans k d)).prefix ≡ h.front
      prefix = (indexed.named h.front k d h.marked).1

      longest : (other : Entry) (j : ℕ) → j < length (entries_in bytes spans) → get_or (entries_in bytes spans) j other ≡ other → Begins other.prefix text →
          (length h.front < length other.prefix) ⊎ (length other.prefix ≤ length h.front) → length other.prefix ≤ length (entry_in bytes (get_or spans k d)).prefix
      longest other j less is begins (inr le) = subst (λ front. length other.prefix ≤ length front) (sym prefix) le
      longest other j less is begins (inl more) =
          absurd (some≢none (mark_of_entry bytes spans marks indexed other j less is) (h.longest other.prefix begins (short other j less is) more))

-- as its prefix and text were read
pub longest_at : (bytes : List ℕ) (spans : List Span) (marks : Marks) (text : List ℕ) (k : ℕ) (span : Span) (prefix own : List ℕ) → IsIndexed bytes spans marks → IsLongestMark marks text 15 k → span ≡ get_or spans k span →
    prefix ≡ (entry_in bytes span).prefix → own ≡ (entry_in bytes span).text → IsLongest (entries_in bytes spans) text (record { prefix = prefix; text = own })
longest_at bytes spans marks text k span prefix own indexed h read prefix_is own_is =
    subst (λ (e : Entry). IsLongest (entries_in bytes spans) text e)
    (ap (entry_in bytes) (sym read) ∙ ap₂ (λ (a b : List ℕ). let e : Entry = record { prefix = a; text = b } in e) (sym prefix_is) (sym own_is))
    (is_longest bytes spans marks indexed text k span h)
