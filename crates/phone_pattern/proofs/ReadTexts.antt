-- A tree that a pattern text is read as finds as the text, and a table of the tree tells of it.
use Rattle.std.proofs.Common.{◌≡◌, ◌<◌, ◌+◌, ◌==◌, ℕ, List, [], length, cond, None, Some, Option, All, IfOk, IfSome, Result, String, Global, string_bytes, option_map, refl, sym, subst, ap, ◌∙◌, arith}
use Rattle.std.proofs.lemmas.List.{length-replicate}
use Rattle.std.specs.Option.{IsSome, is_some, option_and_then, option_map_or}
use Rattle.std.specs.Str.{chars}
use Rattle.std.specs.declared.alloc.AllocError.{AllocError}
use Rattle.phone_automaton.specs.Ascii.{AsciiSame}
use Rattle.phone_automaton.specs.Digits.{AreDigits, end_of_digits}
use Rattle.phone_automaton.specs.Tables.{FrontCells, Tells}
use Rattle.phone_automaton.specs.Templates.{with_match_replaced}
use Rattle.phone_pattern.specs.First.{at_start, first_match, front_end, names_in, replaced, seen_of, verbose, with_first_replaced, IsPattern, Seen}
use Rattle.phone_pattern.specs.Outlines.{IsReadAs, TellsOf}
use Rattle.phone_pattern.proofs.Matches.{found, pattern_read}
use Rattle.phone_pattern.proofs.Serving.{digits_ascii, for_names, front_end_seen, names_read, replaced_seen, starts_by_end}
use Rattle.phone_plain.specs.Plain.{IsPlain}
use Rattle.phone_plain.specs.declared.whole.PlainPattern.{PlainPattern}
use Rattle.regex_hir.specs.Find.{find_str, first_between}
use Rattle.regex_hir.specs.Meaning.{meaning}
use Rattle.regex_hir.specs.Re.{Re, Rest, accept}
use Rattle.regex_hir.specs.Text.{is_boundary}
use Rattle.regex_hir.specs.declared.hir.Hir.{Hir}
use Rattle.regex_syntax.specs.Grammar.{Names, read}
use Rattle.regex_syntax.specs.Verdict.{Reads}

-- trees that match ASCII alike find the same there
found_alike : (a b : Re) → AsciiSame a b → (hay : List ℕ) → All (λ x. x < 128) hay → find_str a hay 0 ≡ find_str b hay 0
unfolding find_str
found_alike a b same hay ok = ap (λ (f : Rest → Rest). first_between (λ i. cond (is_boundary hay i) (f accept i) None) 0 (length hay)) (same hay ok)

-- what a plain text is read as
pub plain_read : (pattern : List ℕ) (p : PlainPattern) → IsPlain (chars pattern) p → IsReadAs pattern (meaning p.hir) (p.groups + 1)
unfolding IsPattern first_match names_in
plain_read pattern p plain = (
  subst IsSome (sym plain.reads) refl,
  λ hay ok.
      ap (option_map seen_of) (found_alike (meaning p.hir) plain.whole.value plain.matches hay ok)
      ∙ sym (ap (λ o. option_and_then (λ (re, _). option_map seen_of (find_str re.value hay 0)) o) plain.reads),
  sym (ap (λ o. length (option_map_or (λ (_, names). names) o [])) plain.reads ∙ length-replicate (p.groups + 1) None),
)

-- what another text is read as
pub other_read : (pattern : List ℕ) (hir : Hir) (names : Names) (re : Re) → Reads verbose pattern hir names → AsciiSame re (meaning hir) →
    IsReadAs pattern re (length names)
unfolding first_match Reads
other_read pattern hir names re reads same = (
  pattern_read pattern hir names reads,
  λ hay ok.
      let small : All (λ x. x < 256) hay = λ k d h. let b = ok k d h in omega (arith, b) in
      ap (option_map seen_of) (found_alike re (meaning hir) same hay ok)
      ∙ found (read verbose (chars pattern)) _ (meaning hir) hay small (λ x h. h.1) reads,
  ap length (names_read pattern hir names reads),
)

-- a table tells where the match of a text of digits ends at the front
pub front_told : (pattern : List ℕ) (t : FrontCells) → TellsOf pattern t → (hay : List ℕ) → AreDigits hay →
    end_of_digits t.steps hay ≡ front_end pattern hay
front_told pattern t (re, finds, tells) hay digits =
    tells.0 hay digits
    ∙ front_end_seen (find_str re hay 0)
    ∙ ap (λ o. option_and_then (λ (s : ℕ × ℕ). cond (s.0 == 0) (Some s.1) None) (option_map (λ (s : Seen). (s.0, s.1)) o)) (finds hay (digits_ascii hay digits))

-- and whether one begins there
pub begins_told : (pattern : List ℕ) (t : FrontCells) → TellsOf pattern t → (hay : List ℕ) → AreDigits hay →
    is_some (end_of_digits t.steps hay) ≡ at_start pattern hay
begins_told pattern t told hay digits = starts_by_end pattern hay (end_of_digits t.steps hay) (front_told pattern t told hay digits)

-- the same of an answer, which may be absent
pub if_told : (pattern : List ℕ) (t : FrontCells) → TellsOf pattern t → (hay text : List ℕ) → hay ≡ text → (o : Option (Option ℕ)) →
    IfSome o (λ end. end ≡ end_of_digits t.steps hay) → IfSome o (λ end. AreDigits hay) → IfSome o (λ end. end ≡ front_end pattern text)
if_told pattern t told hay text same None is digits = tt
if_told pattern t told hay text same (Some end) is digits = subst (λ x. end ≡ front_end pattern x) same (is ∙ front_told pattern t told hay digits)

-- what a table writes in the place of a match is written in the place of the pattern text's match
pub replace_told : (pattern template hay : List ℕ) (t : FrontCells) → TellsOf pattern t → AreDigits hay →
    (r : Result (Option (String Global)) AllocError) →
    ((re : Re) → Tells re t → IfOk r (λ made. IfSome made (λ out. (names : Names) → string_bytes out ≡ with_match_replaced names template hay (find_str re hay 0)))) →
    IfOk r (λ made. IfSome made (λ out. string_bytes out ≡ replaced pattern template hay))
replace_told pattern template hay t (re, finds, tells) digits r told =
    for_names (λ names. with_match_replaced names template hay (find_str re hay 0)) (names_in pattern) (replaced pattern template hay)
    (replaced_seen (names_in pattern) template hay (find_str re hay 0)
    ∙ ap (with_first_replaced (names_in pattern) template hay) (finds hay (digits_ascii hay digits)))
    r (told re tells)

-- a table of a tree tells of the text that is read as the tree
pub tells_of_read : (pattern : List ℕ) (re : Re) (groups : ℕ) → IsReadAs pattern re groups → (o : Option FrontCells) → IfSome o (Tells re) → IfSome o (TellsOf pattern)
tells_of_read pattern re groups is None tells = tt
tells_of_read pattern re groups is (Some t) tells = (re, is.1, tells)
