-- What keeps all records of a table, after a run over them.
use Rattle.std.proofs.Common.{◌≡◌, false, List, [], ◌∷◌, ◌++◌, refl, sym, ap, subst, ◌∙◌}
use Rattle.phone_csv.specs.Formats.{Record}
use Rattle.phone_table.specs.Summaries.{IsEmpty}
use Rattle.phone_csv.specs.RecordReports.{AreRows}
use Rattle.phone_csv.specs.RecordReports.AreRows.{none, answered, left_out}
use Rattle.phone_table.specs.Answered.{Answered, AreAnswered, key_in}
use Rattle.phone_table.specs.Answered.AreAnswered.{none as none_answered, next as next_answered}
use Rattle.phone_table.specs.Counts.{no_counts}
use Rattle.phone_table.specs.Held.{holds}
use Rattle.phone_table.specs.Held as held
use Rattle.phone_table.specs.Held.Holds.{held as one_held}
use Rattle.phone_table.specs.Rows.{AreKept, row_of}
use Rattle.phone_table.specs.Rows.AreKept.{none as none_kept, kept as one_kept}
use Rattle.phone_table.specs.Summed.{IsSummed}
use Rattle.phone_table.specs.declared.holder.Holder.{Holder}
use Rattle.phone_table.proofs.Kept.{gives}
use Rattle.phone_table.proofs.Summing.{sums_held, sums_none}

-- the records so far are kept with their answers, and counted, and no row was written
pub record HeldSo (first : Holder) (records rows : List Record) (now : Holder) : Type 0 where
  pub unwritten : rows ≡ []
  pub engine : now.table.engine ≡ first.table.engine
  pub asked : now.table.asked ≡ first.table.asked
  pub columns : now.table.columns ≡ first.table.columns
  pub answers : AreAnswered (gives first.table) records (held.answered now.held.items)
  pub plain : List Record
  pub counts : AreKept false (held.answered now.held.items) plain now.table.counts
  pub summed : IsSummed first.table.asked (held.answered now.held.items) now.table.summary

module _ (first : Holder) (fresh : held.answered first.held.items ≡ []) (counts : first.table.counts ≡ no_counts) (empty : IsEmpty first.table.summary) where
  pub all_held : (records rows : List Record) (last : Holder) → AreRows holds first records rows last → HeldSo first records rows last
  all_held records rows last none = record {
    unwritten = refl;
    engine = refl;
    asked = refl;
    columns = refl;
    answers = rw fresh none_answered;
    plain = [];
    counts = rw (fresh, counts) none_kept;
    summed = subst (λ all. IsSummed first.table.asked all first.table.summary) (sym fresh) (sums_none first.table.asked first.table.summary empty);
  }
  all_held records rows last (answered some before now fields answer after are given) = elim given [ ]
  all_held records rows last (left_out some before now fields after are (one_held number answer is table said sums more)) =
      let s = all_held some before now are in
      let a : Answered = record { own = fields; answer = answer; key = key_in number } in
      let counted = ap (λ t. t.counts) table in
      record {
        unwritten = s.unwritten;
        engine = ap (λ t. t.engine) table ∙ s.engine;
        asked = ap (λ t. t.asked) table ∙ s.asked;
        columns = ap (λ t. t.columns) table ∙ s.columns;
        answers = rw more (next_answered some (held.answered now.held.items) fields answer number s.answers (rw (s.engine, s.columns, s.asked) at is));
        plain = s.plain ++ row_of a ∷ [];
        counts = rw (more, counted) (one_kept (held.answered now.held.items) s.plain now.table.counts a s.counts refl);
        summed = sums_held first.table.asked (held.answered now.held.items) (held.answered last.held.items) a now.table.summary last.table.summary more s.summed (rw s.asked at sums);
      }
