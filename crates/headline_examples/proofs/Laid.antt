-- What the layouts of the samples make of digits.
use Rattle.std.proofs.Common.{◌≡◌, ◌&&◌, ◌==◌, ◌+◌, ℕ, Bool, true, false, if◌then◌else◌, nat_lt}
use Rattle.std.proofs.Common.{List, [], ◌∷◌, length, replicate, codes, Option, None, Some}
use Rattle.std.proofs.Common.{option_map, refl, ap, ap₂, ◌∙◌}
use Rattle.std.specs.Fmt.{digits}
use Rattle.std.specs.List.{find, list_all}
use Rattle.std.specs.Option.{option_map_or, option_or}
use Rattle.regex.proofs.OnLiterals.{regex_on_literals, IsReadAs, ◌then◌, alone, alt-fail}
use Rattle.regex.specs.Patterns.{Re, find_str}
use Rattle.phone_values.specs.declared.mode.Mode.TheVariants.{International, National, Rfc3966}
use Rattle.phone_territory.specs.First.{Seen, at_start, first_match, first_span, is_whole_match}
use Rattle.phone_territory.specs.First.{names_in, replaced}
use Rattle.phone_territory.specs.First.{seen_of, verbose, with_first_replaced}
use Rattle.phone_print.specs.Layouts.{laid}
use Rattle.phone_print.specs.Texts.{laid_out, laid_out_by}
use Rattle.phone_values.specs.declared.rules.Rules.{Rules}
use Rattle.phone_values.specs.declared.rules.Rules.TheVariants.{Library, Crate}
use Rattle.phone_territory.specs.Layouts.{layout_pattern, suits}
use Rattle.headline_examples.proofs.Digits.{digit, groups, nd_ranges, read_groups-groups, run, runs}
use Rattle.headline_examples.proofs.Searches.{searching, first_match-as_read}
use Rattle.headline_examples.specs.Samples.{ad, am, announcing, at, at_by_x, layout, number}
use Rattle.headline_examples.specs.Samples.{long_layout, long_number, long_numbers, nz, nz_layout, us}

-- a pattern's text is read as a tree with so many groups, none of which has a name
record IsTree (pattern : List ℕ) (re : Re) (count : ℕ) : Type 0 where
  read : IsReadAs verbose pattern re
  names : names_in pattern ≡ replicate (count + 1) None

replaced-as_read : {pattern : List ℕ} {re : Re} {count : ℕ} → IsTree pattern re count →
    (template hay text : List ℕ) → list_all (λ c. nat_lt c 256) hay ≡ true →
    (let seen = option_map seen_of (find_str re hay 0) in
    with_first_replaced (replicate (count + 1) None) template hay seen) ≡ text →
    replaced pattern template hay ≡ text
replaced-as_read p template hay text bytes e =
    ap₂ (λ names seen. with_first_replaced names template hay seen) p.names
    (first_match-as_read _ hay _ bytes p.read) ∙ e

nz_tree : IsTree (codes "(\\d)(\\d{3})(\\d{4})") (groups 1 (0 ∷ 3 ∷ 4 ∷ [])) 3
unfolding regex_on_literals names_in
nz_tree = record { read = alt-fail _ then read_groups-groups 1 (0 ∷ 3 ∷ 4 ∷ []); names = refl }

us_tree : IsTree (codes "(\\d{3})(\\d{3})(\\d{4})") (groups 1 (3 ∷ 3 ∷ 4 ∷ [])) 3
unfolding regex_on_literals names_in
us_tree = record { read = alt-fail _ then read_groups-groups 1 (3 ∷ 3 ∷ 4 ∷ []); names = refl }

halves : IsTree (codes "(\\d{3})(\\d{3})") (groups 1 (3 ∷ 3 ∷ [])) 2
unfolding regex_on_literals names_in
halves = record { read = alt-fail _ then read_groups-groups 1 (3 ∷ 3 ∷ []); names = refl }

am_tree : IsTree (codes "\\d{8}") (run digit 8) 0
unfolding regex_on_literals names_in
am_tree = record { read = alone (runs 8); names = refl }

-- New Zealand's layout suits the number: a 3 leads it, and the match is the whole
led : at_start (codes "3") (codes "33316005") ≡ true
unfolding searching first_match
led = refl

-- a match spans so many bytes from the first on
abbrev spans : ℕ → Option Seen → Bool
spans count seen =
    option_map_or (λ (s : ℕ × ℕ). (s.0 == 0) && (s.1 == count))
    (option_map (λ (s : Seen). (s.0, s.1)) seen) false

is_whole_match-as_read : {pattern : List ℕ} {re : Re} {count : ℕ} → IsTree pattern re count →
    (hay : List ℕ) → list_all (λ c. nat_lt c 256) hay ≡ true →
    spans (length hay) (option_map seen_of (find_str re hay 0)) ≡ true →
    is_whole_match pattern hay ≡ true
is_whole_match-as_read p hay bytes e =
    ap (spans (length hay)) (first_match-as_read _ hay _ bytes p.read) ∙ e

whole : is_whole_match (codes "(\\d)(\\d{3})(\\d{4})") (codes "33316005") ≡ true
unfolding searching nd_ranges
whole = is_whole_match-as_read nz_tree (codes "33316005") refl refl

pub nz_laid : (e : Option (List ℕ)) →
    laid_out nz International None (number 64 0 33316005 e) ≡ codes "3 331 6005"
unfolding searching nd_ranges digits
nz_laid e =
    ap (λ b. let layout = option_or None (if b then Some nz_layout else None) in
    laid layout nz International None (codes "33316005")) (ap₂ ◌&&◌ led whole)
    ∙ replaced-as_read nz_tree (codes "$1 $2 $3") (codes "33316005") (codes "3 331 6005") refl refl

-- by libphonenumber's rules as well: the match is the whole
pub nz_laid_by : (rules : Rules) (e : Option (List ℕ)) →
    laid_out_by rules nz International None (number 64 0 33316005 e) ≡ codes "3 331 6005"
unfolding searching nd_ranges digits
nz_laid_by Library e =
    ap (λ b. let layout = option_or None (if b then Some nz_layout else None) in
    laid layout nz International None (codes "33316005")) (ap₂ ◌&&◌ led whole)
    ∙ replaced-as_read nz_tree (codes "$1 $2 $3") (codes "33316005") (codes "3 331 6005") refl refl
nz_laid_by Crate e = nz_laid e

-- the text of RFC 3966 has the same layout
pub nz_laid_rfc3966 : (rules : Rules) (e : Option (List ℕ)) →
    laid_out_by rules nz Rfc3966 None (number 64 0 33316005 e) ≡ codes "3 331 6005"
unfolding searching nd_ranges digits
nz_laid_rfc3966 Library e =
    ap (λ b. let layout = option_or None (if b then Some nz_layout else None) in
    laid layout nz Rfc3966 None (codes "33316005")) (ap₂ ◌&&◌ led whole)
    ∙ replaced-as_read nz_tree (codes "$1 $2 $3") (codes "33316005") (codes "3 331 6005") refl refl
nz_laid_rfc3966 Crate e =
    ap (λ b. let layout = option_or None (if b then Some nz_layout else None) in
    laid layout nz Rfc3966 None (codes "33316005")) (ap₂ ◌&&◌ led whole)
    ∙ replaced-as_read nz_tree (codes "$1 $2 $3") (codes "33316005") (codes "3 331 6005") refl refl

-- so it is the first of New Zealand's that suits
pub nz_suits : find (suits (codes "33316005")) (nz_layout ∷ []) ≡ Some nz_layout
nz_suits = ap (λ b. if b then Some nz_layout else None) (ap₂ ◌&&◌ led whole)

pub nz_whole : is_whole_match (layout_pattern nz_layout) (codes "33316005") ≡ true
nz_whole = whole

pub us_laid :
    laid_out us International None (number 1 0 6502530000 (Some [])) ≡ codes "650-253-0000"
unfolding searching nd_ranges digits
us_laid =
    replaced-as_read us_tree (codes "$1-$2-$3") (codes "6502530000") (codes "650-253-0000")
    refl refl

pub ad_laid :
    laid_out ad International None (number 376 0 123456 (Some (codes "5"))) ≡ codes "123/456/"
unfolding searching nd_ranges digits
ad_laid = replaced-as_read halves (codes "$1/$2/") (codes "123456") (codes "123/456/") refl refl

pub ad_short : laid_out ad International None (number 376 0 12 None) ≡ codes "12"
unfolding searching nd_ranges digits
ad_short = replaced-as_read halves (codes "$1/$2/") (codes "12") (codes "12") refl refl

pub at_laid : laid_out at International None (number 43 0 123456 None) ≡ codes "123x456"
unfolding searching nd_ranges digits
at_laid = replaced-as_read halves (codes "${1}x$2") (codes "123456") (codes "123x456") refl refl

pub am_laid : laid_out am International None (number 374 0 12345678 None) ≡ codes "number"
unfolding searching nd_ranges digits
am_laid = replaced-as_read am_tree (codes "number") (codes "12345678") (codes "number") refl refl

-- a pattern of eight digits matches a number of eight whole, and so at its front
pub eight_whole : is_whole_match (codes "\\d{8}") (codes "12345678") ≡ true
unfolding searching nd_ranges
eight_whole = is_whole_match-as_read am_tree (codes "12345678") refl refl

pub nz_general : is_whole_match (codes "\\d{8}") (codes "33316005") ≡ true
unfolding searching nd_ranges
nz_general = is_whole_match-as_read am_tree (codes "33316005") refl refl

pub eight_front : at_start (codes "\\d{8}") (codes "12345678") ≡ true
unfolding searching nd_ranges
eight_front =
    ap (λ (seen : Option Seen). option_map_or (λ (s : Seen). s.0 == 0) seen false)
    (first_match-as_read _ (codes "12345678") _ refl am_tree.read)

-- in halves with a space between them, whatever announces an extension
pub spaced_laid : (id : List ℕ) (code : ℕ) (prefix : List ℕ) (e : Option (List ℕ)) →
    laid_out (announcing id code (codes "$1 $2") prefix) International None
    (number code 0 123456 e) ≡ codes "123 456"
unfolding searching nd_ranges digits
spaced_laid id code prefix e =
    replaced-as_read halves (codes "$1 $2") (codes "123456") (codes "123 456") refl refl

-- and its pattern matches the six digits whole
pub halves_whole : is_whole_match (codes "(\\d{3})(\\d{3})") (codes "123456") ≡ true
unfolding searching nd_ranges
halves_whole = is_whole_match-as_read halves (codes "123456") refl refl

-- so that libphonenumber's rules lay them out so as well, abroad and at home
pub spaced_laid_by : (rules : Rules) (id : List ℕ) (code : ℕ) (prefix : List ℕ)
    (e : Option (List ℕ)) →
    laid_out_by rules (announcing id code (codes "$1 $2") prefix) National None
    (number code 0 123456 e) ≡ codes "123 456"
unfolding searching nd_ranges digits
spaced_laid_by Library id code prefix e =
    ap (λ b. let chosen = option_or None (if b then Some (layout (codes "(\\d{3})(\\d{3})") (codes "$1 $2")) else None) in
    laid chosen (announcing id code (codes "$1 $2") prefix) National None (codes "123456"))
    halves_whole
    ∙ replaced-as_read halves (codes "$1 $2") (codes "123456") (codes "123 456") refl refl
spaced_laid_by Crate id code prefix e = spaced_laid id code prefix e

pub at_by_x_laid : (e : Option (List ℕ)) →
    laid_out at_by_x International None (number 43 0 123456 e) ≡ codes "123/456/"
unfolding searching nd_ranges digits
at_by_x_laid e =
    replaced-as_read halves (codes "$1/$2/") (codes "123456") (codes "123/456/") refl refl

-- fifteen digits, of which three stand apart
long_tree : IsTree (codes "(\\d{3})(\\d{12})") (groups 1 (3 ∷ 12 ∷ [])) 2
unfolding regex_on_literals names_in
long_tree = record { read = alt-fail _ then read_groups-groups 1 (3 ∷ 12 ∷ []); names = refl }

-- what it matches first, by that
long_match : (hay : List ℕ) → list_all (λ c. nat_lt c 256) hay ≡ true →
    first_span (layout_pattern long_layout) hay ≡
    option_map (λ (s : Seen). (s.0, s.1))
    (option_map seen_of (find_str (groups 1 (3 ∷ 12 ∷ [])) hay 0))
long_match hay bytes =
    ap (option_map (λ (s : Seen). (s.0, s.1)))
    (first_match-as_read (codes "(\\d{3})(\\d{12})") hay (groups 1 (3 ∷ 12 ∷ [])) bytes
    long_tree.read)

-- all of the digits match, and fewer don't
pub long_span : first_span (layout_pattern long_layout) (codes "333199999999999") ≡ Some (0, 15)
unfolding searching nd_ranges
long_span = long_match (codes "333199999999999") refl

pub short_span : first_span (layout_pattern long_layout) (codes "3331") ≡ None
unfolding searching nd_ranges
short_span = long_match (codes "3331") refl

pub long_text : replaced (layout_pattern long_layout) (codes "$1 $2") (codes "333199999999999")
    ≡ codes "333 199999999999"
unfolding searching nd_ranges
long_text =
    replaced-as_read long_tree (codes "$1 $2") (codes "333199999999999") (codes "333 199999999999")
    refl refl

pub long_laid : laid_out long_numbers International None long_number ≡ codes "333 199999999999"
unfolding digits
long_laid = long_text
