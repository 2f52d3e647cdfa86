use Rattle.std.proofs.lemmas.List.{map-append}
use Rattle.std.proofs.lemmas.List.Concat.{flat_map-append}
use Rattle.phone_columns.proofs.RowLemmas.{zip_append}
use Rattle.phone_columns.specs.Cells.{cell_of_row, fact_of_row, is_number, text_of_row}
use Rattle.phone_columns.specs.Rows.{IsAnswer}
use Rattle.phone_columns.proofs.laws.one_after_the_other.Goals as goal

pub returns : goal.returns
returns c = record {
  answers = λ rules db rows more xs ys p q. zip_append (IsAnswer rules db) rows xs more ys p q;
  cells = λ k xs ys. flat_map-append (cell_of_row k) xs ys;
  facts = λ rules db f xs ys. flat_map-append (fact_of_row rules db f) xs ys;
  texts = λ rules db m xs ys. flat_map-append (text_of_row rules db m) xs ys;
  flags = λ xs ys. map-append is_number xs ys;
}
