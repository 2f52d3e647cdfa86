-- A run in which each line is answered by itself, as one that keeps nothing from line to line.
use Rattle.std.proofs.Common.{◌≡◌, ⊎_elim, ℕ, List, [], ◌∷◌, ◌++◌, Option, Result, sym, subst, ◌∙◌}
use Rattle.std.specs.Prelude.{⊤}
use Rattle.phone_lines.specs.Ends.{Devices, Ends}
use Rattle.phone_lines.specs.Ends.Ends.{whole as each_whole, input_failed as each_input_failed, output_failed as each_output_failed, no_memory as each_no_memory}
use Rattle.phone_lines.specs.Lines.{without_return}
use Rattle.phone_lines.specs.LineReports as on_lines
use Rattle.phone_lines.specs.LineReports.{AreAnswers, IsBeginning, TakesA}
use Rattle.phone_lines.specs.LineReports.AreAnswers.{none}
use Rattle.phone_lines.specs.Taken.{AreTaken, BreaksOff, IsReport, IsReportOnEnded, IsReportOnFirst, IsReportSoFar}
use Rattle.phone_lines.specs.Taken.{begins_with_nothing, each_by_itself}
use Rattle.phone_lines.specs.Taken.AreTaken.{begun, next}
use Rattle.phone_lines.specs.TakenEnds.{EndsBy}
use Rattle.phone_lines.specs.TakenEnds.EndsBy.{input_failed, no_memory, output_failed, whole}
use Rattle.phone_lines.specs.declared.blocks.RunError.{RunError}
use Rattle.phone_lines.proofs.AnswerLemmas.{AreAnswers-then}
use Rattle.phone_lines.proofs.Beginnings as beginnings

module _ {Kept : Type 0} (gives : Kept → List ℕ → List ℕ → Type 0) (first : Kept) where
  -- what is kept stays, so each line is answered by itself
  are_answers : (lines : List (List ℕ)) (text : List ℕ) (kept : Kept) → AreTaken begins_with_nothing (each_by_itself gives) first lines text kept →
      AreAnswers (gives first) lines text × (kept ≡ first)
  are_answers _ _ _ (begun head kept b) = (subst (λ t. AreAnswers (gives first) [] t) (sym b.0) none, b.1)
  are_answers _ _ _ (next lines answers kept line answer last are g) =
      let r = are_answers lines answers kept are in (
        subst (λ t. AreAnswers (gives first) (lines ++ line ∷ []) (answers ++ t)) (sym g.2)
            (AreAnswers-then (gives first) lines answers line g.0 r.0 (subst (λ k. gives k (without_return line) g.0) r.1 g.1)),
        g.3 ∙ r.1,
      )

  report : (bytes : List ℕ) (last : Kept) (text : List ℕ) → IsReport begins_with_nothing (each_by_itself gives) first bytes last text →
      on_lines.IsReport (gives first) bytes text
  report bytes last text (lines, are, taken) = (lines, are, (are_answers lines text last taken).0)

  on_ended : (bytes : List ℕ) (last : Kept) (text : List ℕ) → IsReportOnEnded begins_with_nothing (each_by_itself gives) first bytes last text →
      on_lines.IsReportOnEnded (gives first) bytes text
  on_ended bytes last text (lines, piece, cut, taken) = (lines, piece, cut, (are_answers lines text last taken).0)

  on_first : (bytes text : List ℕ) → IsReportOnFirst begins_with_nothing (each_by_itself gives) first bytes text →
      on_lines.IsReportOnFirst (gives first) bytes text
  on_first bytes text (some, others, piece, cut, which) =
      ⊎_elim (λ e. ([], some ++ others, piece, cut, subst (λ t. AreAnswers (gives first) [] t) (sym e) none))
      (λ h. (some, others, piece, cut, (are_answers some text h.0 h.1).0)) which

  so_far : (to_come : Option (List ℕ)) (bytes text : List ℕ) → IsReportSoFar begins_with_nothing (each_by_itself gives) first to_come bytes text →
      beginnings.IsReportSoFar (gives first) to_come bytes text
  so_far to_come bytes text (some, others, are, which) =
      ⊎_elim (λ e. ([], some ++ others, are, subst (λ t. AreAnswers (gives first) [] t) (sym e) none))
      (λ h. (some, others, are, (are_answers some text h.0 h.1).0)) which

  beginning : (to_come : Option (List ℕ)) (bytes : List ℕ) (before after : Option (List ℕ)) →
      BreaksOff begins_with_nothing (each_by_itself gives) first to_come bytes before after →
      TakesA (IsBeginning (gives first) to_come bytes) before after
  beginning to_come bytes before after (text, r, f) =
      (f.front, beginnings.IsBeginning-front (gives first) to_come bytes text f.front f.rest (so_far to_come bytes text r) f.whole, f.taken)

  -- such a run ends as one in which each line is answered by itself
  pub Ends-by_itself : (before after : Devices) (last : Kept) (end : Result ⊤ RunError) →
      EndsBy begins_with_nothing (each_by_itself gives) first before after last end → Ends (gives first) before after end
  Ends-by_itself before after last _ (whole w) = each_whole (record {
    bytes = w.bytes;
    read = w.read;
    end = w.end;
    report = (w.report.0, report w.bytes last w.report.0 w.report.1, w.report.2);
    handed_on = w.handed_on;
    no_source_fault = w.no_source_fault;
    no_sink_fault = w.no_sink_fault;
  })
  Ends-by_itself before after last _ (input_failed w) = each_input_failed (record {
    bytes = w.bytes;
    read = w.read;
    cause = w.cause;
    report = (w.report.0, on_ended w.bytes last w.report.0 w.report.1, w.report.2);
    handed_on = w.handed_on;
    no_sink_fault = w.no_sink_fault;
  })
  Ends-by_itself before after last _ (output_failed w) = each_output_failed (record {
    bytes = w.bytes;
    read = w.read;
    beginning = beginning after.to_come w.bytes before.taken after.taken w.beginning;
    sink_fault = w.sink_fault;
  })
  Ends-by_itself before after last _ (no_memory w) = each_no_memory (record {
    bytes = w.bytes;
    read = w.read;
    report = (w.report.0, on_first w.bytes w.report.0 w.report.1, w.report.2);
    handed_on = w.handed_on;
    no_source_fault = w.no_source_fault;
    no_sink_fault = w.no_sink_fault;
  })
