-- What a machine finds in ASCII texts is what the text of its pattern finds there.
use Rattle.std.proofs.Common.{⊎_elim, is_some, ◌≡◌, ◌<◌, ◌≤◌, ◌-◌, ◌==◌, ◌&&◌, ◌⊎◌, inl, inr, ℕ, Bool, List, length, true, false, Option, None, Some, Result, Ok, Err, IfOk, IfSome, String, Global, string_bytes, All, option_map, slice_get, get_or, refl, sym, subst, ap, ap₂, ◌∙◌, arith, true≢false, cond, ne_eqb}
use Rattle.std.proofs.lemmas.List.{get_or_default}
use Rattle.std.proofs.lemmas.Bool.{cases_eq, eqb-true}
use Rattle.std.proofs.lemmas.Option.{none-some, same_Some, slice_get_cases}
use Rattle.std.specs.Prelude.{slice_index_or}
use Rattle.std.specs.declared.alloc.AllocError.{AllocError}
use Rattle.std.specs.Option.{option_and_then, option_map_or}
use Rattle.std.specs.Str.{chars}
use Rattle.phone_pattern.specs.First.{at_start, front_end, is_whole_match, captured, captured_by, first_match, first_span, last_group, names_in, replaced, verbose, with_first_replaced, IsCut, Seen, seen_of}
use Rattle.phone_pattern.specs.Machines.{as_captured, Serves}
use Rattle.phone_pattern.proofs.Matches.{found, named}
use Rattle.phone_automaton.specs.Finds.{at_front, finds, FindsInAscii, Searcher}
use Rattle.phone_automaton.specs.Finds as searched
use Rattle.phone_automaton.specs.Digits.{AreDigits}
use Rattle.phone_pattern.specs.declared.pattern.Captured.{Captured}
use Rattle.phone_automaton.proofs.Fitting.{too_long, too_short}
use Rattle.phone_automaton.proofs.Fronting.{barred}
use Rattle.phone_automaton.specs.Fronts.{BeginsIn, may_begin}
use Rattle.phone_automaton.specs.Lengths.{any_length, Bounds, HasLengths, IsTooLong, IsTooShort}
use Rattle.phone_automaton.specs.Templates.{with_match_replaced}
use Rattle.phone_pattern.specs.Outlines.{AreFronts, AreLengths, IsShape, Shape}
use Rattle.regex_extract.specs.Frames.{Has}
use Rattle.regex_hir.specs.Find.{find_str}
use Rattle.regex.specs.Patterns.{Match, span}
use Rattle.regex_hir.specs.Meaning.{meaning}
use Rattle.regex_hir.specs.declared.hir.Hir.{Hir}
use Rattle.regex_syntax.specs.Grammar.{read, Names}
use Rattle.regex_syntax.specs.Verdict.{Reads}

pub names_read : (pattern : List ℕ) (hir : Hir) (names : Names) → Reads verbose pattern hir names → names ≡ names_in pattern
unfolding names_in Reads
names_read pattern hir names reads = named (read verbose (chars pattern)) _ names reads (λ x h. h.2)

-- a machine of the tree that a pattern text is read as serves the text
pub serves : (pattern : List ℕ) (hir : Hir) (names : Names) (s : Searcher) → Reads verbose pattern hir names →
    FindsInAscii (meaning hir) (finds s) → s.last ≡ length names - 1 → Serves pattern s
unfolding first_match Reads
serves pattern hir names s reads finds_it last = (
  λ hay ok.
      let small : All (λ x. x < 256) hay = λ k d h. let b = ok k d h in omega arith in
      ap (option_map seen_of) (finds_it hay ok) ∙ found (read verbose (chars pattern)) _ (meaning hir) hay small (λ x h. h.1) reads,
  last ∙ ap (λ (n : Names). length n - 1) (names_read pattern hir names reads),
)

front_seen : (o : Option Match) → at_front o ≡ option_map_or (λ (s : Seen). s.0 == 0) (option_map seen_of o) false
front_seen None = refl
front_seen (Some m) = refl

span_seen : (o : Option Match) → option_map span o ≡ option_map (λ (s : Seen). (s.0, s.1)) (option_map seen_of o)
span_seen None = refl
span_seen (Some m) = refl

-- at the front of a text that begins with another byte than those of its tree's matches nothing is found
pub fronts_served : (pattern : List ℕ) (hir : Hir) (names : Names) (set : List Bool) → Reads verbose pattern hir names →
    BeginsIn set (meaning hir) → AreFronts pattern set
unfolding first_match Reads
fronts_served pattern hir names set reads begins hay ok other =
    sym (ap (λ (o : Option Seen). option_map_or (λ (s : Seen). s.0 == 0) o false)
    (found (read verbose (chars pattern)) _ (meaning hir) hay ok (λ x h. h.1) reads))
    ∙ sym (front_seen (find_str (meaning hir) hay 0))
    ∙ barred set hay other (meaning hir) begins ok

-- where each byte may begin a match, nothing is said
pub fronts_of_any : (pattern : List ℕ) (set : List Bool) → ((b : ℕ) → b < 256 → Has set b) → AreFronts pattern set
fronts_of_any pattern set all hay ok other = absurd (go (slice_get_cases hay 0).1)
  where
    go : ((b : ℕ) × (0 < length hay) × (slice_get hay 0 ≡ Some b) × (get_or hay 0 b ≡ b)) ⊎ ((length hay ≤ 0) × (slice_get hay 0 ≡ None)) → ⊥
    go (inl (b, within, here, read)) =
        let small : b < 256 = subst (λ x. x < 256) read (ok 0 b within) in
        true≢false (sym (all b small) ∙ sym (ap (λ o. option_map_or (λ b. slice_index_or set b false) o true) here) ∙ other)
    go (inr (past, none)) = true≢false (sym (ap (λ o. option_map_or (λ b. slice_index_or set b false) o true) none) ∙ other)

-- a match is the whole text where it is at the front and ends there
pub whole_at_front : (pattern text : List ℕ) → is_whole_match pattern text ≡ option_map_or (λ e. e == length text) (front_end pattern text) false
whole_at_front pattern text = go (first_span pattern text)
  where
    step : (e : ℕ) (b : Bool) → (b && (e == length text)) ≡ option_map_or (λ e. e == length text) (cond b (Some e) None) false
    step e true = refl
    step e false = refl

    go : (o : Option (ℕ × ℕ)) → option_map_or (λ (s : ℕ × ℕ). (s.0 == 0) && (s.1 == length text)) o false ≡ option_map_or (λ e. e == length text) (option_and_then (λ (s : ℕ × ℕ). cond (s.0 == 0) (Some s.1) None) o) false
    go None = refl
    go (Some s) = step s.1 (s.0 == 0)

-- and where it is, it ends there
pub whole_ends : (pattern text : List ℕ) → is_whole_match pattern text ≡ true → front_end pattern text ≡ Some (length text)
whole_ends pattern text whole = go (front_end pattern text) (sym (whole_at_front pattern text) ∙ whole)
  where
    go : (o : Option ℕ) → option_map_or (λ e. e == length text) o false ≡ true → o ≡ Some (length text)
    go None e = absurd (true≢false (sym e))
    go (Some n) e = ap (λ (k : ℕ). Some k) (eqb-true n (length text) e)

-- what doesn't begin at the front ends nowhere
pub none_at_front : (pattern text : List ℕ) → at_start pattern text ≡ false → front_end pattern text ≡ None
none_at_front pattern text = go (first_match pattern text)
  where
    go : (o : Option Seen) → option_map_or (λ (s : Seen). s.0 == 0) o false ≡ false →
        option_and_then (λ (s : ℕ × ℕ). cond (s.0 == 0) (Some s.1) None) (option_map (λ (s : Seen). (s.0, s.1)) o) ≡ None
    go None e = refl
    go (Some s) e = ap (λ b. cond b (Some s.1) None) e

whole_at_start : (pattern text : List ℕ) → at_start pattern text ≡ false → is_whole_match pattern text ≡ false
whole_at_start pattern text e =
    whole_at_front pattern text ∙ ap (λ o. option_map_or (λ e. e == length text) o false) (none_at_front pattern text e)

pub front_end_seen : (o : Option Match) →
    searched.front_end o ≡ option_and_then (λ (s : ℕ × ℕ). cond (s.0 == 0) (Some s.1) None) (option_map (λ (s : Seen). (s.0, s.1)) (option_map seen_of o))
front_end_seen None = refl
front_end_seen (Some m) = refl

-- a text that is shorter than each match of its tree has none at its front, and one that is longer isn't one
lengths_served : (pattern : List ℕ) (hir : Hir) (names : Names) (b : Bounds) → Reads verbose pattern hir names →
    HasLengths b (meaning hir) → AreLengths pattern b
unfolding first_match Reads
lengths_served pattern hir names b reads lengths hay ok = (
  λ short.
      sym (ap (λ (o : Option Seen). option_map_or (λ (s : Seen). s.0 == 0) o false) seen)
      ∙ sym (front_seen (find_str (meaning hir) hay 0))
      ∙ too_short b (meaning hir) lengths hay short,
  λ long. whole_at_front pattern hay ∙ not_whole (front_end pattern hay) (λ e. too_long b (meaning hir) lengths hay long (ends ∙ e)),
)
  where
    seen : option_map seen_of (find_str (meaning hir) hay 0) ≡ first_match pattern hay
    seen = found (read verbose (chars pattern)) _ (meaning hir) hay ok (λ x h. h.1) reads

    ends : searched.front_end (find_str (meaning hir) hay 0) ≡ front_end pattern hay
    ends =
        front_end_seen (find_str (meaning hir) hay 0)
        ∙ ap (λ (o : Option Seen). option_and_then (λ (s : ℕ × ℕ). cond (s.0 == 0) (Some s.1) None) (option_map (λ (s : Seen). (s.0, s.1)) o)) seen

    not_whole : (o : Option ℕ) → (o ≡ Some (length hay) → ⊥) → option_map_or (λ e. e == length hay) o false ≡ false
    not_whole None other = refl
    not_whole (Some e) other = ne_eqb e (length hay) (λ same. other (ap Some same))

-- a match is the whole text if it ends with it
pub whole_by_end : (pattern text : List ℕ) (o : Option ℕ) → o ≡ front_end pattern text → option_map_or (λ e. e == length text) o false ≡ is_whole_match pattern text
whole_by_end pattern text o is = ap (λ o. option_map_or (λ e. e == length text) o false) is ∙ sym (whole_at_front pattern text)

-- nor is anything said where no length is known
pub lengths_of_any : (pattern : List ℕ) (b : Bounds) → b ≡ any_length → AreLengths pattern b
lengths_of_any pattern b e hay ok = rw e (λ short. absurd (omega (arith, short)), λ long. absurd long.0)

-- what serves the tree that a pattern text is read as serves the text, if it is there
if_made : (pattern : List ℕ) (hir : Hir) (names : Names) (made : Option Searcher) → Reads verbose pattern hir names →
    IfSome made (λ s. FindsInAscii (meaning hir) (finds s)) → IfSome made (λ s. s.last ≡ length names - 1) → IfSome made (Serves pattern)
if_made pattern hir names None reads finds_it last = tt
if_made pattern hir names (Some s) reads finds_it last = serves pattern hir names s reads finds_it last

-- what is made of a tree is made of the text that it is read from
pub shape_served : (pattern : List ℕ) (hir : Hir) (names : Names) (s : Shape) → Reads verbose pattern hir names →
    BeginsIn s.fronts (meaning hir) → HasLengths s.lengths (meaning hir) →
    IfSome s.searcher (λ s. FindsInAscii (meaning hir) (finds s)) → IfSome s.searcher (λ s. s.last ≡ length names - 1) →
    IsShape pattern s
shape_served pattern hir names s reads begins lengths finds_it last = (
  fronts_served pattern hir names s.fronts reads begins,
  lengths_served pattern hir names s.lengths reads lengths,
  if_made pattern hir names s.searcher reads finds_it last,
)

module _ (pattern : List ℕ) (s : Shape) (is : IsShape pattern s) (text : List ℕ) (bytes : (k : ℕ) → get_or text k 0 < 256) where
  small : All (λ b. b < 256) text
  small k d h = rw (get_or_default text k d 0 h) (bytes k)

  -- a text that begins with another byte, or is too short, has no match at its front
  pub begins_otherwise : may_begin s.fronts text ≡ false → at_start pattern text ≡ false
  begins_otherwise = is.0 text small

  pub ends_too_early : IsTooShort s.lengths (length text) → at_start pattern text ≡ false
  ends_too_early = (is.1 text small).0

  -- one that is too short or too long isn't a match
  pub no_whole : IsTooShort s.lengths (length text) ⊎ IsTooLong s.lengths text → is_whole_match pattern text ≡ false
  no_whole (inl short) = whole_at_start pattern text (ends_too_early short)
  no_whole (inr long) = (is.1 text small).1 long

captured_seen : (last : ℕ) (o : Option Match) →
    option_map (as_captured last) (option_map (searched.captured last) o) ≡ option_map (captured_by last) (option_map seen_of o)
captured_seen last None = refl
captured_seen last (Some m) = refl

pub replaced_seen : (names : Names) (template hay : List ℕ) (o : Option Match) →
    with_match_replaced names template hay o ≡ with_first_replaced names template hay (option_map seen_of o)
replaced_seen names template hay None = refl
replaced_seen names template hay (Some m) = refl

module _ (pattern hay : List ℕ) (s : Searcher) (serves_it : Serves pattern s) (ok : All (λ x. x < 128) hay) where
  pub at_front_served : at_front (finds s hay) ≡ at_start pattern hay
  at_front_served = front_seen (finds s hay) ∙ ap (λ (o : Option Seen). option_map_or (λ (s : Seen). s.0 == 0) o false) (serves_it.0 hay ok)

  pub span_served : option_map span (finds s hay) ≡ first_span pattern hay
  span_served = span_seen _ ∙ ap (option_map (λ (s : Seen). (s.0, s.1))) (serves_it.0 hay ok)

  pub replaced_served : (template : List ℕ) → with_match_replaced (names_in pattern) template hay (finds s hay) ≡ replaced pattern template hay
  replaced_served template = replaced_seen (names_in pattern) template hay _ ∙ ap (with_first_replaced (names_in pattern) template hay) (serves_it.0 hay ok)

  pub captured_served : option_map (as_captured s.last) (option_map (searched.captured s.last) (finds s hay)) ≡ captured pattern hay
  captured_served = captured_seen s.last _ ∙ ap₂ (λ (n : ℕ) (o : Option Seen). option_map (captured_by n) o) serves_it.1 (serves_it.0 hay ok)

-- what holds for all names holds for these
pub for_names : (want : Names → List ℕ) (names : Names) (out : List ℕ) → want names ≡ out →
    (r : Result (Option (String Global)) AllocError) → IfOk r (λ found. IfSome found (λ t. (all : Names) → string_bytes t ≡ want all)) →
    IfOk r (λ found. IfSome found (λ t. string_bytes t ≡ out))
for_names want names out e (Ok None) h = h
for_names want names out e (Ok (Some t)) h = h names ∙ e
for_names want names out e (Err x) h = h

-- a span that lies in a text of ASCII begins and ends between characters
pub within : (text : List ℕ) (s : ℕ × ℕ) → All (λ x. x < 128) text → s.0 ≤ s.1 → s.1 ≤ length text → IsCut text s
within text s ok forward inside = (
  forward,
  inside,
  (omega arith, λ here big. let small = ok s.0 0 here in omega arith),
  (inside, λ here big. let small = ok s.1 0 here in omega arith),
)

-- a text of digits is one of ASCII
pub digits_ascii : (text : List ℕ) → AreDigits text → All (λ x. x < 128) text
digits_ascii text digits k d h = let small = digits k d h in omega arith

-- what an automaton finds at the front is what the text of its pattern finds there
pub front_end_served : (pattern hay : List ℕ) (s : Searcher) → Serves pattern s → All (λ x. x < 128) hay →
    searched.front_end (finds s hay) ≡ front_end pattern hay
front_end_served pattern hay s serves_it ok =
    front_end_seen (finds s hay)
    ∙ ap (λ (o : Option Seen). option_and_then (λ (s : ℕ × ℕ). cond (s.0 == 0) (Some s.1) None) (option_map (λ (s : Seen). (s.0, s.1)) o)) (serves_it.0 hay ok)

-- a match begins at the front where one ends that does
pub starts_by_end : (pattern text : List ℕ) (o : Option ℕ) → o ≡ front_end pattern text → is_some o ≡ at_start pattern text
starts_by_end pattern text o is = ap is_some is ∙ go (first_match pattern text)
  where
    step : (b : Bool) (e : ℕ) → is_some (cond b (Some e) None) ≡ b
    step true e = refl
    step false e = refl

    go : (o : Option Seen) → is_some (option_and_then (λ (s : ℕ × ℕ). cond (s.0 == 0) (Some s.1) None) (option_map (λ (s : Seen). (s.0, s.1)) o)) ≡
        option_map_or (λ (s : Seen). s.0 == 0) o false
    go None = refl
    go (Some s) = step (s.0 == 0) s.1

-- a match that begins at the front is seen so
front_seen_at : (pattern text : List ℕ) (e : ℕ) → Some e ≡ front_end pattern text → (slots : ℕ → Option ℕ) × (first_match pattern text ≡ Some (0, e, slots))
front_seen_at pattern text e is = go (first_match pattern text) is
  where
    step : (s : Seen) (b : Bool) → (s.0 == 0) ≡ b → Some e ≡ cond b (Some s.1) None → (slots : ℕ → Option ℕ) × (Some s ≡ Some (0, e, slots))
    step s true zero_there same =
        (s.2, ap₂ (λ (x y : ℕ). Some (x, y, s.2)) (⊎_elim (λ e. e) (λ other. absurd (true≢false (sym zero_there ∙ ne_eqb s.0 0 other))) (cases_eq s.0 0)) (sym (same_Some _ _ same)))
    step s false other same = absurd (none-some e (sym same))

    go : (o : Option Seen) → Some e ≡ option_and_then (λ (s : ℕ × ℕ). cond (s.0 == 0) (Some s.1) None) (option_map (λ (s : Seen). (s.0, s.1)) o) →
        (slots : ℕ → Option ℕ) × (o ≡ Some (0, e, slots))
    go None same = absurd (none-some e (sym same))
    go (Some s) same = step s (s.0 == 0) refl same

pub span_by_end : (pattern text : List ℕ) (e : ℕ) → Some e ≡ front_end pattern text → Some (0, e) ≡ first_span pattern text
span_by_end pattern text e is =
    let (slots, there) = front_seen_at pattern text e is in
    sym (ap (option_map (λ (s : Seen). (s.0, s.1))) there)

-- without groups a match captures itself
pub captured_by_end : (pattern text : List ℕ) (e : ℕ) (c : Captured) → last_group pattern ≡ 0 → Some e ≡ front_end pattern text →
    c.span ≡ (0, e) → c.first ≡ None → c.last ≡ Some (0, e) → Some c ≡ captured pattern text
captured_by_end pattern text e c no_group is span first last =
    let (slots, there) = front_seen_at pattern text e is in
    parts c span first last
    ∙ sym (ap₂ (λ (n : ℕ) (o : Option Seen). option_map (captured_by n) o) no_group there)
  where
    parts : (c : Captured) → c.span ≡ (0, e) → c.first ≡ None → c.last ≡ Some (0, e) →
        Some c ≡ Some (record { span = (0, e); first = None; last = Some (0, e) })
    parts c span first last =
        ap₂ (λ (s : ℕ × ℕ) (g : Option (ℕ × ℕ) × Option (ℕ × ℕ)). Some (record { span = s; first = g.0; last = g.1 })) span
        (ap₂ (λ (f l : Option (ℕ × ℕ)). (f, l)) first last)
