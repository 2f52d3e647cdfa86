use Rattle.std.proofs.Common.{rules, refl, sym, ◌∙◌}
use Rattle.phone_languages.specs.NameTables.IsFault.{no_tab}
use Rattle.phone_languages.proofs.names.push_line.Goals as goal

pub returns-in_ok-push_name-in-Some-clause-taken : goal.returns-in_ok-push_name-in-Some-clause-taken
returns-in_ok-push_name-in-Some-clause-taken c =
    let (e, id, text, all) = c.in_ok-push_name-in-Some.ensures in
    record {
      name = e;
      is_line = rw (id, text) c.in-Some.ensures.0;
      first_tab = rw id c.in-Some.ensures.1;
      unbroken = c.requires;
      whole = all;
    }

pub returns-in-None-clause-refused : goal.returns-in-None-clause-refused
returns-in-None-clause-refused c = λ after. (search rules, no_tab c.args.line.now after refl c.requires c.in-None.ensures)
