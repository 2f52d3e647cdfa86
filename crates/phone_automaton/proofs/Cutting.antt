-- The ranges of a class, cut to ASCII one by one.
use Rattle.std.proofs.Common.{◌≡◌, ◌<◌, ◌≤◌, ◌+◌, ◌&&◌, ◌||◌, ℕ, Bool, true, false, List, [], ◌∷◌, ◌++◌, length, take, refl, sym, ap, ap₂, ◌∙◌, arith}
use Rattle.std.proofs.lemmas.Bool.Decides.{nat_tests}
use Rattle.phone_automaton.specs.Ascii.{in_ascii, in_ascii_part}
use Rattle.regex_class.specs.Ranges.{Range, in_range, in_ranges, range_at}
use Rattle.regex_class.proofs.RangesLemmas.{in_ranges-more, in_ranges-push}

-- of no ranges nothing is left
pub none_cut : (c : ℕ) → in_ranges [] c ≡ in_ascii [] c
unfolding in_ranges
none_cut c = refl

-- a range after ASCII has no part in it
pub past_ascii : (first last c : ℕ) → 127 < first → in_ascii_part (first, last) c ≡ false
unfolding in_range in_ranges
past_ascii first last c past = grind (arith, nat_tests)

-- a range that ends in ASCII is its own part
pub ends_in_ascii : (first last c : ℕ) → last < 127 → in_range (first, last) c ≡ in_ascii_part (first, last) c
unfolding in_range in_ranges
ends_in_ascii first last c early = grind (arith, nat_tests)

-- of one that ends later the part ends with ASCII
pub ends_with_ascii : (first last c : ℕ) → 127 ≤ last → in_range (first, 127) c ≡ in_ascii_part (first, last) c
unfolding in_range in_ranges
ends_with_ascii first last c late = grind (arith, nat_tests)

both_cut : (a r k : Bool) → ((a && k) || (r && k)) ≡ ((a || r) && k)
both_cut true true true = refl
both_cut true true false = refl
both_cut true false true = refl
both_cut true false false = refl
both_cut false true true = refl
both_cut false true false = refl
both_cut false false true = refl
both_cut false false false = refl

one_cut : (a r k : Bool) → (r && k) ≡ false → (a && k) ≡ ((a || r) && k)
one_cut true r k e = refl
one_cut false r k e = sym e

module _ (kept rs : List Range) (i : ℕ) (inside : i < length rs) (so_far : (c : ℕ) → in_ranges kept c ≡ in_ascii (take i rs) c) where
  abbrev ascii : ℕ → Bool
  ascii c = in_ranges ((0, 127) ∷ []) c

  -- a range's part comes to the others
  pub cut_more : (low : Range) → ((c : ℕ) → in_range low c ≡ in_ascii_part (range_at rs i) c) →
      (c : ℕ) → in_ranges (kept ++ low ∷ []) c ≡ in_ascii (take (i + 1) rs) c
  cut_more low part c =
      in_ranges-push kept low c
      ∙ ap₂ (λ (a b : Bool). a || b) (so_far c) (part c)
      ∙ both_cut (in_ranges (take i rs) c) (in_range (range_at rs i) c) (ascii c)
      ∙ ap (λ (a : Bool). a && ascii c) (sym (in_ranges-more rs i c inside))

  -- a range without a part changes nothing
  pub cut_past : ((c : ℕ) → in_ascii_part (range_at rs i) c ≡ false) → (c : ℕ) → in_ranges kept c ≡ in_ascii (take (i + 1) rs) c
  cut_past none c =
      so_far c
      ∙ one_cut (in_ranges (take i rs) c) (in_range (range_at rs i) c) (ascii c) (none c)
      ∙ ap (λ (a : Bool). a && ascii c) (sym (in_ranges-more rs i c inside))
