-- A beginning of the answers to lines: some of them whole, and a part of the next one.
use Rattle.std.proofs.Common.{◌≡◌, ◌⊎◌, inl, inr, ⊎_elim, ℕ, List, [], ◌∷◌, ◌++◌, Option, refl, sym, ap, ap₂, ◌∙◌, append_assoc, subst}
use Rattle.std.proofs.lemmas.List.{append-nil}
use Rattle.phone_lines.specs.Lines.{AreLines, last_line}
use Rattle.phone_lines.specs.LineReports.{AreAnswers, AreLinesSoFar, BeginsAnswer, Gives, HasOneAnswer}
use Rattle.phone_lines.specs.LineReports.{IsBeginning, TakesA, TakesBeginning}
use Rattle.phone_lines.specs.LineReports.AreAnswers.{none, next}
use Rattle.phone_lines.specs.LineReports.BeginsAnswer.{nothing, some}
use Rattle.phone_lines.proofs.AnswerLemmas.{AreAnswers-then, answers_after}
use Rattle.phone_lines.proofs.CutLemmas.{same_cut}

-- where one text is two others, cut in two ways: the one cut is in the first of them, or behind it
seam : (x y u v : List ℕ) → x ++ y ≡ u ++ v → ((w : List ℕ) × (x ≡ u ++ w)) ⊎ ((w : List ℕ) × (u ≡ x ++ w) × (y ≡ w ++ v))
seam [] y u v e = inr (u, refl, e)
seam (c ∷ x) y [] v e = inl (c ∷ x, refl)
seam (c ∷ x) y (d ∷ u) v e = ⊎_elim (λ h. inl (h.0, let i = h.1 in cc)) (λ h. inr (h.0, (let i = h.1 in cc), h.2)) (seam x y u v (cc))

-- the answers to some first lines of what was read
abbrev pub IsReportSoFar : Gives → Option (List ℕ) → List ℕ → List ℕ → Type 0
IsReportSoFar gives to_come bytes text =
    (lines : List (List ℕ)) × (more : List (List ℕ)) × AreLinesSoFar to_come bytes (lines ++ more) × AreAnswers gives lines text

module _ (gives : Gives) (to_come : Option (List ℕ)) (bytes : List ℕ) where
  begun_here : (past lines : List (List ℕ)) (told front : List ℕ) → AreLinesSoFar to_come bytes (past ++ lines) → AreAnswers gives past told →
      BeginsAnswer gives lines front → IsBeginning gives to_come bytes (told ++ front)
  begun_here past lines told front so_far are b =
      record { first = past; others = lines; lines = so_far; whole = told; part = front; answers = are; begun = b; is = refl }

  -- some lines are told, and of the answers to the next ones this is a beginning
  begun : (past lines more : List (List ℕ)) (told answers front rest : List ℕ) → AreLinesSoFar to_come bytes (past ++ (lines ++ more)) →
      AreAnswers gives past told → AreAnswers gives lines answers → answers ≡ front ++ rest → IsBeginning gives to_come bytes (told ++ front)
  begun past _ more told _ [] rest so_far are none e = begun_here past more told [] so_far are (nothing more)
  begun past _ more told _ (c ∷ front) rest so_far are none e = absurd (cc)
  begun past _ more told _ front rest so_far are (next line answer lines answers g more_are) e =
      ⊎_elim (λ h. begun_here past (line ∷ (lines ++ more)) told front so_far are (some line answer front h.0 (lines ++ more) g h.1))
      (λ h. rw (h.1, ← append_assoc told (answer ++ 10 ∷ []) h.0)
      (begun (past ++ line ∷ []) lines more (told ++ (answer ++ 10 ∷ [])) answers h.0 rest (rw append_assoc so_far)
      (AreAnswers-then gives past told line answer are g) more_are h.2))
      (seam (answer ++ 10 ∷ []) answers front rest (append_assoc answer (10 ∷ []) answers ∙ e))

  -- what begins the answers to some first lines is a beginning of the report
  pub IsBeginning-front : (text front rest : List ℕ) → IsReportSoFar gives to_come bytes text → text ≡ front ++ rest → IsBeginning gives to_come bytes front
  IsBeginning-front text front rest r e = begun [] r.0 r.1 [] text front rest r.2 none r.3 e

-- such lines begin the lines of the bytes
lines_begin : (to_come : Option (List ℕ)) (bytes : List ℕ) (soon lines : List (List ℕ)) → AreLinesSoFar to_come bytes soon → AreLines bytes lines →
    (more : List (List ℕ)) × (lines ≡ soon ++ more)
lines_begin to_come bytes soon lines (front, last, cut, which) (front', last', cut', all') =
    let same = same_cut cut cut' in
    let is : lines ≡ front ++ last_line last = all' ∙ sym (ap₂ (λ x y. x ++ last_line y) same.0 same.1) in
    ⊎_elim (λ e. (last_line last, rw e is)) (λ e. ([], rw (append-nil, e.1) is)) which

-- a beginning of the answer to the first line begins the answers to all
part_begins : (gives : Gives) → HasOneAnswer gives → (lines more : List (List ℕ)) (part report : List ℕ) → BeginsAnswer gives lines part →
    AreAnswers gives (lines ++ more) report → (rest : List ℕ) × (report ≡ part ++ rest)
part_begins gives one _ more _ report (nothing _) h = (report, refl)
part_begins gives one _ more part _ (some line answer _ rest lines g e) (next _ b _ answers g' _) =
    (rest ++ answers, rw (one _ b answer g' g, ← append_assoc part rest answers, ← e, append_assoc))

-- a sink that took a beginning of the report took one of whatever is the report
pub TakesA-begins : (gives : Gives) → HasOneAnswer gives → (to_come : Option (List ℕ)) (bytes : List ℕ) (before after : Option (List ℕ)) →
    TakesA (IsBeginning gives to_come bytes) before after → TakesBeginning gives bytes before after
TakesA-begins gives one to_come bytes before after (text, b, taken) report (lines, are, answers) =
    let more = lines_begin to_come bytes (b.first ++ b.others) lines b.lines are in
    let all = subst (λ t. AreAnswers gives t report) (more.1 ∙ append_assoc b.first b.others more.0) answers in
    let later = answers_after gives one b.first (b.others ++ more.0) b.whole report b.answers all in
    let part = part_begins gives one b.others more.0 b.part later.0 b.begun later.2 in
    record {
      front = text;
      rest = part.0;
      whole = later.1 ∙ ap (λ t. b.whole ++ t) part.1 ∙ sym (append_assoc b.whole b.part part.0) ∙ ap (λ t. t ++ part.0) (sym b.is);
      taken = taken;
    }
