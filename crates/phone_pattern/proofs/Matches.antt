-- A regex that was built from a text finds the first match of that text.
use Rattle.std.proofs.Common.{◌≡◌, ◌==◌, false, ℕ, zero, suc, ◌-◌, ◌<◌, ◌++◌, List, [], ◌∷◌, map, take, drop, slice_range, Option, None, Some, All, IsSomeAnd, option_map, get_or, length, cond, nat_le, refl, sym, ap, ap₂, ◌∙◌, arith, add-one, ne_eqb}
use Rattle.std.proofs.Math.Nat.{sub-zero}
use Rattle.std.proofs.lemmas.Bool.{cond-false}
use Rattle.std.proofs.lemmas.List.{get_or_default}
use Rattle.std.specs.List.{AllByRecursion}
use Rattle.std.specs.Option.{IsSome, option_and_then, option_map_or, unwrap_or}
use Rattle.std.specs.Str.{chars}
use Rattle.regex.specs.Patterns.{Re, Match, Reads, SameCaptures, find_str, find_all_str, span}
use Rattle.regex.specs.Replace.{group_bytes, replaced_by}
use Rattle.regex.specs.Strings.{regex_pattern, regex_source, regex_config, regex_names, captures_span, IsReadFromSource, IsCapturesOf}
use Rattle.regex.specs.Templates.{written_after}
use Rattle.regex.specs.declared.string.captures.Captures.{Captures}
use Rattle.regex.specs.declared.string.regex.Regex.{Regex}
use Rattle.regex.proofs.CapturesLemmas.{group_span-zero}
use Rattle.regex_hir.specs.Find.{matches_from}
use Rattle.regex_hir.specs.declared.hir.Hir.{Hir}
use Rattle.regex_syntax.specs.Grammar.{read, Names}
use Rattle.regex_syntax.specs.Brackets.{Nested}
use Rattle.regex_syntax.proofs.CapturesLemmas.{find_str_alike}
use Rattle.phone_pattern.specs.First.{IsPattern, IsUnderX, first_match, first_span, last_group, captured, captured_by, names_in, replaced, with_first_replaced, group_in, verbose, Seen, seen_of}

-- what a pattern text is read as
abbrev Parsed : Type 0
Parsed = Nested Re × Names

pub found : (o : Option Parsed) (P : Parsed → Type 0) (re : Re) (hay : List ℕ) → All (λ x. x < 256) hay →
    ((x : Parsed) → P x → SameCaptures re x.0.value) → IsSomeAnd o P →
    option_map seen_of (find_str re hay 0) ≡ option_and_then (λ (x, _). option_map seen_of (find_str x.value hay 0)) o
found None P re hay bytes f p = absurd p
found (Some x) P re hay bytes f p = find_str_alike re x.0.value (f x p) hay bytes 0

pub named : (o : Option Parsed) (P : Parsed → Type 0) (names : Names) →
    IsSomeAnd o P → ((x : Parsed) → P x → names ≡ x.1) → names ≡ option_map_or (λ (_, names). names) o []
named None P names p f = absurd p
named (Some x) P names p f = f x p

is_read_as : (o : Option Parsed) (P : Parsed → Type 0) → IsSomeAnd o P → IsSome o
is_read_as None P p = absurd p
is_read_as (Some x) P p = refl

-- what the grammar reads is a pattern
pub pattern_read : (pattern : List ℕ) (hir : Hir) (names : Names) → Reads verbose pattern hir names → IsPattern pattern
unfolding IsPattern Reads
pattern_read pattern hir names reads = is_read_as (read verbose (chars pattern)) _ reads

through : (o : Option Match) → option_map span o ≡ option_map (λ (s : Seen). (s.0, s.1)) (option_map seen_of o)
through None = refl
through (Some m) = refl

-- what the captures of a match span
pub captures_span-group_in : (hay : List ℕ) (m : Match) (c : Captures) → IsCapturesOf hay m c → (n : ℕ) → captures_span c n ≡ group_in (seen_of m) n
captures_span-group_in hay m c h zero = group_span-zero _ _ _ _ ∙ ap Some h.1.whole_is
captures_span-group_in hay m c h (suc n) = h.2 (suc n) (omega arith) ∙ sym (cond-false _ _ _ (ne_eqb (suc n) 0 (omega arith)))

-- the text with one match replaced
abbrev one_for : (Match → List ℕ) → List ℕ → Option Match → List ℕ
one_for w hay o = option_map_or (λ m. (slice_range hay 0 m.start ++ w m) ++ drop m.trace.end hay) o hay

replaced_one : (w : Match → List ℕ) (hay : List ℕ) (o : Option Match) (n : ℕ) (f : ℕ → Option Match) →
    replaced_by w hay 0 (take 1 (matches_from f (suc n) o)) ≡ one_for w hay o
unfolding matches_from replaced_by
replaced_one w hay None n f = refl
replaced_one w hay (Some m) n f = refl

module _ (r : Regex) (config : regex_config r ≡ verbose) (is_read : IsReadFromSource r) where
  reads : Reads verbose (regex_source r) r.pattern.program.hir (regex_names r)
  reads = rw config at is_read

  -- its text is a pattern
  pub is_pattern : IsPattern (regex_source r)
  unfolding IsPattern Reads
  is_pattern = is_read_as (read verbose (chars (regex_source r))) _ reads

  -- the names of its groups are those of its text
  pub regex_names-names_in : regex_names r ≡ names_in (regex_source r)
  unfolding names_in Reads
  regex_names-names_in = named (read verbose (chars (regex_source r))) _ (regex_names r) reads (λ x h. h.2)

  module _ (hay : List ℕ) (bytes : (k : ℕ) → get_or hay k 0 < 256) where
    -- what its matcher finds is the first match of its text
    pub find-first_match : option_map seen_of (find_str (regex_pattern r) hay 0) ≡ first_match (regex_source r) hay
    unfolding first_match Reads
    find-first_match =
        let small : All (λ x. x < 256) hay = λ k d h. rw (get_or_default hay k d 0 h) (bytes k) in
        found _ _ (regex_pattern r) hay small (λ x h. h.1) reads

    pub find-first_span : option_map span (find_str (regex_pattern r) hay 0) ≡ first_span (regex_source r) hay
    find-first_span = through _ ∙ ap (option_map (λ (s : Seen). (s.0, s.1))) find-first_match

    -- what its matcher captures is what its text captures
    pub captures-captured : (m : Match) (c : Captures) (span : ℕ × ℕ) (first last : Option (ℕ × ℕ)) → find_str (regex_pattern r) hay 0 ≡ Some m → IsCapturesOf hay m c →
        Some span ≡ captures_span c 0 → first ≡ cond (nat_le 1 (length (regex_names r) - 1)) (captures_span c 1) None → last ≡ captures_span c (length (regex_names r) - 1) →
        Some (record { span = span; first = first; last = last }) ≡ captured (regex_source r) hay
    captures-captured m c span first last e h whole one end =
        ap Some
        (ap (λ (s : ℕ × ℕ). record { span = s; first = first; last = last }) (ap (λ o. unwrap_or o span) (whole ∙ group 0))
        ∙ ap (λ (o : Option (ℕ × ℕ)). record { span = (m.start, m.trace.end); first = o; last = last }) (one ∙ ap (λ o. cond (nat_le 1 n) o None) (group 1))
        ∙ ap (λ (o : Option (ℕ × ℕ)). record { span = (m.start, m.trace.end); first = cond (nat_le 1 n) (group_in (seen_of m) 1) None; last = o }) (end ∙ group n))
        ∙ ap₂ (λ (names : Names) (o : Option Seen). option_map (captured_by (length names - 1)) o) regex_names-names_in (sym (ap (option_map seen_of) e) ∙ find-first_match)
      where
        n : ℕ
        n = length (regex_names r) - 1

        group : (k : ℕ) → captures_span c k ≡ group_in (seen_of m) k
        group = captures_span-group_in hay m c h

    pub none-captured : find_str (regex_pattern r) hay 0 ≡ None → None ≡ captured (regex_source r) hay
    none-captured e = ap (option_map (captured_by (last_group (regex_source r)))) (sym (ap (option_map seen_of) e) ∙ find-first_match)

    abbrev writes : List ℕ → Match → List ℕ
    writes template m = written_after (regex_names r) (group_bytes hay m) template 0

    -- the text with its first match replaced
    pub replaced_by-replaced : (template : List ℕ) →
        replaced_by (writes template) hay 0 (take 1 (find_all_str (regex_pattern r) hay))
        ≡ replaced (regex_source r) template hay
    replaced_by-replaced template =
        rw add-one (replaced_one _ hay (find_str (regex_pattern r) hay 0) _ _)
        ∙ written _
        ∙ ap₂ (λ names o. with_first_replaced names template hay o) regex_names-names_in find-first_match
      where
        written : (o : Option Match) →
            one_for (writes template) hay o ≡ with_first_replaced (regex_names r) template hay (option_map seen_of o)
        written None = refl
        written (Some m) = rw sub-zero

-- compiled patterns are of texts that are patterns
pub are_patterns : (res : List Regex) → AllByRecursion IsUnderX res → AllByRecursion IsPattern (map regex_source res)
are_patterns [] h = tt
are_patterns (r ∷ rs) h = (is_pattern r h.0.0 h.0.1, are_patterns rs h.1)

-- where a match begins, told by its span
pub begins-first_span : (o : Option Seen) → option_map_or (λ (p : ℕ × ℕ). p.0 == 0) (option_map (λ (s : Seen). (s.0, s.1)) o) false ≡ option_map_or (λ (s : Seen). s.0 == 0) o false
begins-first_span None = refl
begins-first_span (Some s) = refl
