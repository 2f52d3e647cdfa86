-- What is looked up of the rows' numbers, column by column.
use Rattle.std.specs.Prelude.{◌≡◌, List}
use Rattle.std.specs.List.{flat_map}
use Rattle.phone_values.specs.declared.rules.Rules.{Rules}
use Rattle.phone_records.specs.declared.loader.Metadata.{Metadata}
use Rattle.phone_columns.specs.Cells.{fact_of_row}
use Rattle.phone_columns.specs.declared.answers.Answer.{Answer}
use Rattle.phone_columns.specs.declared.column.Fact.TheVariants.{Kind, Region, Validity}
use Rattle.phone_columns.specs.declared.known.Known.{Known}

-- each column has what is looked up of these rows
pub record AreKnown (rules : Rules) (db : List Metadata) (answers : List Answer) (known : Known) :
    Type 0 where
  pub kinds : known.kinds.items ≡ flat_map (fact_of_row rules db Kind) answers
  pub regions : known.regions.items ≡ flat_map (fact_of_row rules db Region) answers
  pub validities : known.validities.items ≡ flat_map (fact_of_row rules db Validity) answers
