-- Lines of bytes that have report lines, as they come one after the other.
use Rattle.std.proofs.Common.{◌≡◌, ℕ, ◌+◌, ◌<◌, ◌≤◌, take, drop, length, get_or, slice_range}
use Rattle.std.proofs.Common.{List, [], ◌∷◌, ◌++◌, Option, refl, sym, ap, ◌∙◌, subst, arith}
use Rattle.std.proofs.lemmas.List.{append-nil, length-drop, nil_from_length, take_all, take_more}
use Rattle.std.proofs.lemmas.List.Edits.{between_more, between_none}
use Rattle.std.proofs.lemmas.Slice.{between_to_end}
use Rattle.phone_values.specs.declared.country.Id.{Id}
use Rattle.phone_records.specs.declared.loader.Metadata.{Metadata}
use Rattle.phone_lines.specs.Lines.{last_line, without_return}
use Rattle.phone_lines.specs.LineReports.AreAnswers.{none}
use Rattle.phone_lines.specs.Runs.{IsSoFar}
use Rattle.phone_lines.proofs.AnswerLemmas.{AreAnswers-then}
use Rattle.phone_lines.proofs.CutLemmas.{AreCut-nothing}
use Rattle.phone_lines.proofs.Progress.{IsSoFar-ended, IsSoFar-grown}
use Rattle.phone_engine.specs.ReportLines.{IsReportLine}
use Rattle.phone_engine.specs.Reports.{IsReport}
use Rattle.phone_values.specs.declared.rules.Rules.{Rules}

-- under each database and hint this line has a report line
abbrev pub HasLine : List ℕ → Type 0
HasLine line = (rules : Rules) (db : List Metadata) (hint : Option Id) →
    (answer : List ℕ) × IsReportLine rules db hint line answer

-- and these bytes a report
abbrev pub HaveReport : List ℕ → Type 0
HaveReport bytes = (rules : Rules) (db : List Metadata) (hint : Option Id) →
    (report : List ℕ) × IsReport rules db hint bytes report

-- or one on their lines but for the last piece, which isn't ended yet
abbrev pub HaveSoFar : (bytes line : List ℕ) → Type 0
HaveSoFar bytes line = (rules : Rules) (db : List Metadata) (hint : Option Id) →
    (answers : List ℕ) × IsSoFar (IsReportLine rules db hint) bytes line answers

pub have_nothing : HaveSoFar [] []
have_nothing rules db hint = ([], record { lines = []; cut = AreCut-nothing; answered = none })

have_grown : (bytes line : List ℕ) (x : ℕ) → HaveSoFar bytes line → (x ≡ 10 → ⊥) →
    HaveSoFar (bytes ++ x ∷ []) (line ++ x ∷ [])
have_grown bytes line x have isnt rules db hint =
    let h = have rules db hint in
    (h.0, IsSoFar-grown (IsReportLine rules db hint) bytes line h.0 x h.1 isnt)

have_ended : (bytes line : List ℕ) (x : ℕ) → HaveSoFar bytes line → x ≡ 10 →
    HasLine (without_return line) → HaveSoFar (bytes ++ x ∷ []) []
have_ended bytes line x have is has rules db hint =
    let h = have rules db hint in
    let a = has rules db hint in (
      h.0 ++ (a.0 ++ 10 ∷ []),
      IsSoFar-ended (IsReportLine rules db hint) bytes line [] h.0 a.0 x h.1 is a.1,
    )

-- one more byte of a line
pub have_next : (xs : List ℕ) (start end : ℕ) → start ≤ end → end < length xs →
    HaveSoFar (take end xs) (slice_range xs start end) → (get_or xs end 0 ≡ 10 → ⊥) →
    HaveSoFar (take (end + 1) xs) (slice_range xs start (end + 1))
have_next xs start end h k have isnt =
    subst (λ t. HaveSoFar t (slice_range xs start (end + 1))) (sym (take_more xs end 0 k))
    (subst (λ t. HaveSoFar (take end xs ++ get_or xs end 0 ∷ []) t)
    (sym (between_more xs start end 0 h k))
    (have_grown (take end xs) (slice_range xs start end) (get_or xs end 0) have isnt))

-- the line feed that ends it
pub have_line : (xs : List ℕ) (start end : ℕ) → end < length xs →
    HaveSoFar (take end xs) (slice_range xs start end) → get_or xs end 0 ≡ 10 →
    HasLine (without_return (slice_range xs start end)) →
    HaveSoFar (take (end + 1) xs) (slice_range xs (end + 1) (end + 1))
have_line xs start end k have is has =
    subst (λ t. HaveSoFar t (slice_range xs (end + 1) (end + 1))) (sym (take_more xs end 0 k))
    (subst (λ t. HaveSoFar (take end xs ++ get_or xs end 0 ∷ []) t)
    (sym (between_none xs (end + 1)))
    (have_ended (take end xs) (slice_range xs start end) (get_or xs end 0) have is has))

-- all bytes were read
have_rest : (xs : List ℕ) (start end : ℕ) → length xs ≤ end →
    HaveSoFar (take end xs) (slice_range xs start end) → HaveSoFar xs (drop start xs)
have_rest xs start end h have =
    subst (λ t. HaveSoFar t (drop start xs)) (take_all end xs h)
    (subst (λ t. HaveSoFar (take end xs) t) (between_to_end xs start end h) have)

-- and no piece is left
pub have_all : (xs : List ℕ) (start end : ℕ) → length xs ≤ end →
    HaveSoFar (take end xs) (slice_range xs start end) → length xs ≤ start → HaveReport xs
have_all xs start end h have past rules db hint =
    let on = have_rest xs start end h have rules db hint in
    let s = on.1 in
    let none_left : length (drop start xs) ≡ 0 = rw length-drop (omega (arith, past)) in
    let lines_are : s.lines ≡ s.lines ++ last_line (drop start xs) =
    sym (ap (λ l. s.lines ++ last_line l) (nil_from_length (drop start xs) none_left)
    ∙ append-nil s.lines) in
    (on.0, (s.lines, (s.lines, drop start xs, s.cut, lines_are), s.answered))

one_line : (line : List ℕ) → 0 < length line → last_line line ≡ line ∷ []
one_line [] some = absurd (omega (arith, some))
one_line (c ∷ cs) some = refl

-- and one is, which is a line
pub have_last : (xs : List ℕ) (start end : ℕ) → length xs ≤ end →
    HaveSoFar (take end xs) (slice_range xs start end) → start < length xs →
    HasLine (without_return (slice_range xs start (length xs))) → HaveReport xs
have_last xs start end h have before has rules db hint =
    let line = drop start xs in
    let on = have_rest xs start end h have rules db hint in
    let s = on.1 in
    let is_line = between_to_end xs start (length xs) (omega arith) in
    let a = subst (λ t. HasLine (without_return t)) is_line has rules db hint in
    let is_some : 0 < length (drop start xs) = rw length-drop (omega (arith, before)) in
    let lines_are : s.lines ++ line ∷ [] ≡ s.lines ++ last_line line =
    ap (λ l. s.lines ++ l) (sym (one_line line is_some)) in (
      on.0 ++ (a.0 ++ 10 ∷ []),
      (
        s.lines ++ line ∷ [],
        (s.lines, line, s.cut, lines_are),
        AreAnswers-then (IsReportLine rules db hint) s.lines on.0 line a.0 s.answered a.1,
      ),
    )
