use Rattle.std.proofs.Common.{ap, inl, inr, refl, rules, ◌∙◌}
use Rattle.phone_commands.specs.Columns.{asked}
use Rattle.phone_commands.specs.declared.customers.Customers.{Customers}
use Rattle.phone_cli.specs.Answers.{tells_further}
use Rattle.phone_cli.specs.Answers.Does.{no_memory, refused}
use Rattle.phone_cli.proofs.RunLemmas.{table_does}
use Rattle.phone_cli.proofs.tool.on_table.Goals as goal

pub returns-in-Err : goal.returns-in-Err
returns-in-Err g c = λ is rules under loaded apart. elim c.say_no_columns.ensures [
  | inl r ↦ rw r.0 (refused (r.1.0, record { idle = refl; said = r.1.1 }))
  | inr m ↦ rw m.0 (no_memory (ap tells_further is) record { idle = refl; said = m.1 })
]

pub returns-in-Err-countries_in : goal.returns-in-Err-countries_in
returns-in-Err-countries_in g c = λ is rules under loaded apart. elim c.say_no_columns-in-Err-countries_in.ensures [
  | inl r ↦ rw r.0 (refused (r.1.0, record { idle = refl; said = r.1.1 }))
  | inr m ↦ rw m.0 (no_memory (ap tells_further is) record { idle = refl; said = m.1 })
]

pub returns-in_default : goal.returns-in_default
returns-in_default g c = λ is rules under loaded apart. rw c.say.ensures.status
    (no_memory (ap tells_further is) record { idle = refl; said = c.say.ensures.told })

pub returns : goal.returns
returns g c = λ is rules under loaded apart.
    let further = ap asked c.as_slice.ensures.value ∙ c.in-Ok-extra.ensures ∙ c.in-Ok.ensures in
    let job : Customers = record {
      engine = c.args.reader.engine;
      asked = c.asked.result;
      totals = c.new-2.result;
      unknown = c.new-3.result;
    } in
    table_does _ _ _ job _ _ _ c.run_table.ensures.1 c.run_table.ensures.0 _ is apart
    loaded (c.asked.ensures further (c.as_ref.ensures.variant ∙ c.in-Ok-countries_in.ensures)) rules under c.run_table.ensures.2
    c.run_table.ensures.3
