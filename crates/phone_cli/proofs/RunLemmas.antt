-- What a call's command answers to its inputs, by what its taker or its job is made of.
use Rattle.std.proofs.Common.{◌≡◌, ◌⊎◌, ℕ, List, [], false, true, Option, Some, Result, ap, inl, inr, refl}
use Rattle.std.proofs.Common.{subst}
use Rattle.std.specs.Prelude.{⊤, is_some, option_map}
use Rattle.phone_commands.specs.Columns.{asked, told_for}
use Rattle.phone_commands.specs.EncodedJobs.{ActsIn}
use Rattle.phone_commands.specs.FirstLines.{IsFirstLine}
use Rattle.phone_commands.specs.Inputs.{Name}
use Rattle.phone_commands.specs.Jobs.{TakesLines}
use Rattle.phone_commands.specs.ObjectLines.{after_one}
use Rattle.phone_commands.specs.declared.customers.Customers.{Customers}
use Rattle.phone_commands.specs.declared.finder.Finder.{Finder}
use Rattle.phone_commands.specs.declared.finder.FoundForm.{FoundForm}
use Rattle.phone_commands.specs.declared.inputs.Failure.{Failure}
use Rattle.phone_commands.specs.declared.jobs.Report.{Report}
use Rattle.phone_commands.specs.declared.shorts.Shorts.{Shorts}
use Rattle.phone_commands.specs.declared.takers.FirstLines.{FirstLines}
use Rattle.phone_commands.specs.Strays.{CountsBegin, CountsLine, no_tally, strays_of}
use Rattle.phone_commands.specs.declared.strays.Tally.{Tally}
use Rattle.phone_commands.specs.declared.takers.Objects.{Objects}
use Rattle.phone_commands.specs.declared.typist.Typist.{Typist}
use Rattle.phone_commands.specs.declared.with_input.WithInput.{WithInput}
use Rattle.phone_commands.specs.declared.written.Written.{Written}
use Rattle.phone_lines.specs.Ends.{Devices}
use Rattle.phone_lines.specs.Taken.{begins_with_nothing}
use Rattle.phone_plans.specs.CodeLookUps.{is_prefix_free}
use Rattle.phone_records.specs.declared.loader.Metadata.{Metadata}
use Rattle.phone_table.specs.declared.summed.Totals.{Totals}
use Rattle.phone_values.specs.declared.country.Id.{Id}
use Rattle.phone_values.specs.declared.rules.Rules.{Rules}
use Rattle.phone_words.specs.declared.call.Call.{Call}
use Rattle.phone_words.specs.declared.command.Command.{Command}
use Rattle.phone_words.specs.declared.command.Command.TheVariants as command
use Rattle.phone_words.specs.declared.values.Form.{Form}
use Rattle.phone_cli.specs.Answers.{AnswersReading, Does, IsAsked, IsLoaded, IsMatching, IsTableRun}
use Rattle.phone_cli.specs.Answers.{Runs, finds, is_table, reads}
use Rattle.phone_cli.specs.Answers.Does.{ran, unsummed}
use Rattle.phone_cli.specs.Answers.Meets.{of_lines, of_table}
use Rattle.phone_cli.specs.Answers.Runs.{firsts, found, objects, report, short, table, typed, with_input, written}
use Rattle.phone_cli.specs.Commands.{AnswersInputs, BeginsFound, Finding, GivesFound}
use Rattle.phone_cli.specs.Commands.{GivesObjects, GivesWithInput, GivesWritten, Reports, Tables}
use Rattle.phone_cli.specs.Commands.{found_form, no_first_lines}
use Rattle.phone_cli.specs.Operands.{files_of, has_reader, region_and_files, region_of}
use Rattle.phone_cli.specs.Operands.{IsApart, shorts_of}
use Rattle.phone_cli.specs.Statuses.{status_of}
use Rattle.phone_cli.specs.Streams.{Streams}
use Rattle.phone_cli.proofs.AnswerLemmas.{FinderBegins, FinderGives, ObjectsGive}
use Rattle.phone_cli.proofs.AnswerLemmas.{ReportGives, ShortsGive, TypistGives, WithInputGives, WrittenGives, finding, found_by}
use Rattle.phone_cli.proofs.AnswerLemmas.{objects_by, report_by, short_by, typed_by, with_input_by, written_by}

-- a command that finds numbers
pub finds_by : (is : Command) → (is ≡ command.Find) ⊎
    ((is ≡ command.FoundObjects) ⊎ (is ≡ command.FoundRecords)) → finds is ≡ true
finds_by is (inl e) = ap finds e
finds_by is (inr (inl e)) = ap finds e
finds_by is (inr (inr e)) = ap finds e

-- a command that reads by an engine, and is no other such, is the report
pub is_report : (is : Command) → has_reader is ≡ true → ¬ (is ≡ command.Objects) →
    ¬ (is ≡ command.Find) → ¬ (is ≡ command.FoundObjects) → ¬ (is ≡ command.FoundRecords) →
    ¬ (is ≡ command.Typed) → ¬ (is ≡ command.Table) → ¬ (is ≡ command.ReportWithInput) →
    ((form : Form) → ¬ (is ≡ command.Written form)) → is ≡ command.Report
is_report command.Report r o f fo fr t ta w wr = refl
is_report command.Objects r o f fo fr t ta w wr = absurd (o refl)
is_report command.Find r o f fo fr t ta w wr = absurd (f refl)
is_report command.FoundObjects r o f fo fr t ta w wr = absurd (fo refl)
is_report command.FoundRecords r o f fo fr t ta w wr = absurd (fr refl)
is_report command.Typed r o f fo fr t ta w wr = absurd (t refl)
is_report command.Table r o f fo fr t ta w wr = absurd (ta refl)
is_report command.ReportWithInput r o f fo fr t ta w wr = absurd (w refl)
is_report command.Help r o f fo fr t ta w wr = absurd (cc)
is_report command.Version r o f fo fr t ta w wr = absurd (cc)
is_report command.Regions r o f fo fr t ta w wr = absurd (cc)
is_report command.Unique r o f fo fr t ta w wr = absurd (cc)
is_report command.Short r o f fo fr t ta w wr = absurd (cc)
is_report (command.Written form) r o f fo fr t ta w wr = absurd (wr form refl)

-- a command that tells nothing of the program reads numbers
pub reads_by : (is : Command) → ¬ (is ≡ command.Help) → ¬ (is ≡ command.Version) →
    ¬ (is ≡ command.Regions) → reads is ≡ true
reads_by command.Help h v r = absurd (h refl)
reads_by command.Version h v r = absurd (v refl)
reads_by command.Regions h v r = absurd (r refl)
reads_by command.Report h v r = refl
reads_by command.ReportWithInput h v r = refl
reads_by command.Objects h v r = refl
reads_by command.Find h v r = refl
reads_by command.FoundObjects h v r = refl
reads_by command.FoundRecords h v r = refl
reads_by command.Typed h v r = refl
reads_by command.Table h v r = refl
reads_by command.Unique h v r = refl
reads_by command.Short h v r = refl
reads_by (command.Written form) h v r = refl

-- what a call does that reads numbers, under the region and from the files that it names
pub by_operands : (c : Call) (hint : Option Id) (files : List Name) (before after : Streams)
    (status : ℕ) → (hint, files) ≡ region_and_files c.operands.items →
    AnswersReading c hint files before after status →
    AnswersReading c (region_of c) (files_of c) before after status
by_operands c hint files before after status named act =
    subst (λ (p : Option Id × List Name). AnswersReading c p.0 p.1 before after status) named act

-- the report
pub report_runs : (c : Call) (hint : Option Id) (files : List Name) (r : Report)
    (before after : Devices) (last : Report) (end : Result ⊤ Failure) →
    c.command ≡ command.Report → r.reader.engine.rules ≡ c.rules →
    r.reader.engine.hint ≡ hint →
    AnswersInputs (ActsIn c.encoding (TakesLines begins_with_nothing ReportGives)) files r before
    after last end →
    Runs c hint files before after end
report_runs c hint files r before after last end is rules under act =
    let db = r.reader.engine.database.now in
    let own = report_by c.encoding files r before after last end act in
    let by_rules = subst (λ x. AnswersInputs (ActsIn c.encoding (Reports x db
    r.reader.engine.hint)) files tt before
    after tt end) rules own in
    report db is
    (subst (λ x. AnswersInputs (ActsIn c.encoding (Reports c.rules db x)) files tt before after tt
    end) under by_rules)

-- the report, with the lines
pub with_input_runs : (c : Call) (hint : Option Id) (files : List Name) (w : WithInput)
    (before after : Devices) (last : WithInput) (end : Result ⊤ Failure) →
    c.command ≡ command.ReportWithInput → w.engine.rules ≡ c.rules → w.engine.hint ≡ hint →
    AnswersInputs (ActsIn c.encoding (TakesLines begins_with_nothing WithInputGives)) files w
    before after last end → Runs c hint files before after end
with_input_runs c hint files w before after last end is rules under act =
    let db = w.engine.database.now in
    let own = with_input_by c.encoding files w before after last end act in
    let by_rules = subst (λ x. AnswersInputs (ActsIn c.encoding
    (TakesLines begins_with_nothing (GivesWithInput x db w.engine.hint))) files tt before
    after tt end) rules own in
    with_input db is
    (subst (λ x. AnswersInputs (ActsIn c.encoding
    (TakesLines begins_with_nothing (GivesWithInput c.rules db x))) files tt before after tt
    end) under by_rules)

-- numbers in a format
pub written_runs : (c : Call) (hint : Option Id) (files : List Name) (w : Written)
    (before after : Devices) (last : Written) (end : Result ⊤ Failure) →
    c.command ≡ command.Written w.form → w.engine.rules ≡ c.rules → w.engine.hint ≡ hint →
    AnswersInputs (ActsIn c.encoding (TakesLines begins_with_nothing WrittenGives)) files w
    before after last end → Runs c hint files before after end
written_runs c hint files w before after last end is rules under act =
    let db = w.engine.database.now in
    let own = written_by c.encoding files w before after last end act in
    let by_rules = subst (λ x. AnswersInputs (ActsIn c.encoding
    (TakesLines begins_with_nothing (GivesWritten x db w.engine.hint w.form))) files tt before
    after tt end) rules own in
    written db w.form is
    (subst (λ x. AnswersInputs (ActsIn c.encoding
    (TakesLines begins_with_nothing (GivesWritten c.rules db x w.form))) files tt before after tt
    end) under by_rules)

-- objects
pub objects_runs : (c : Call) (hint : Option Id) (files : List Name) (o : Objects)
    (shorts : Option (List Metadata)) (before after : Devices) (last : Objects)
    (end : Result ⊤ Failure) → c.command ≡ command.Objects →
    IsLoaded (shorts_of c) shorts → asked o.extra.now ≡ told_for c.table.further →
    o.reader.engine.rules ≡ c.rules →
    o.reader.engine.hint ≡ hint → option_map (λ d. d.now) o.reader.short ≡ shorts →
    o.place ≡ after_one c.skipped →
    AnswersInputs (ActsIn c.encoding (TakesLines begins_with_nothing ObjectsGive)) files o before
    after last end →
    Runs c hint files before after end
objects_runs c hint files o shorts before after last end is loaded told rules under with place act =
    let db = o.reader.engine.database.now in
    let extra = o.extra.now in
    let own = objects_by c.encoding files o before after last end act in
    let by_rules = subst (λ x. AnswersInputs (ActsIn c.encoding (TakesLines begins_with_nothing
    (GivesObjects x db (option_map (λ d. d.now) o.reader.short) extra o.reader.engine.hint))) files
    o.place before after last.place end) rules own in
    let by_hint = subst (λ x. AnswersInputs (ActsIn c.encoding (TakesLines begins_with_nothing
    (GivesObjects c.rules db (option_map (λ d. d.now) o.reader.short) extra x))) files o.place before
    after last.place end) under by_rules in
    let by_shorts = subst (λ x. AnswersInputs (ActsIn c.encoding (TakesLines begins_with_nothing
    (GivesObjects c.rules db x extra hint))) files o.place before after last.place end) with by_hint in
    objects db shorts extra last.place is loaded told
    (subst (λ x. AnswersInputs (ActsIn c.encoding (TakesLines begins_with_nothing
    (GivesObjects c.rules db shorts extra hint))) files x before after last.place end) place by_shorts)

-- found numbers
pub found_runs : (c : Call) (hint : Option Id) (files : List Name) (f : Finder)
    (before after : Devices) (last : Finder) (end : Result ⊤ Failure) →
    finds c.command ≡ true → IsMatching c f.matching → f.reader.engine.rules ≡ c.rules →
    f.reader.engine.hint ≡ hint → f.form ≡ found_form c.command → f.first ≡ after_one c.skipped →
    f.place ≡ after_one c.skipped → f.names.now ≡ files → f.begun ≡ 0 →
    AnswersInputs (ActsIn c.encoding (TakesLines FinderBegins FinderGives)) files f before after
    last end →
    Runs c hint files before after end
found_runs c hint files f before after last end is matching rules under form first place names
    begun act =
    let db = f.reader.engine.database.now in
    let Told = λ (r : Rules) (h : Option Id) (form : FoundForm) (first : ℕ) (names : List Name)
    (from : Finding). AnswersInputs (ActsIn c.encoding (TakesLines (BeginsFound form names first)
    (GivesFound r db h f.matching form names))) files from before after (finding last) end in
    let own : Told f.reader.engine.rules f.reader.engine.hint f.form f.first f.names.now
    (finding f) = found_by c.encoding files f before after last end act in
    let by_rules = subst (λ x. Told x f.reader.engine.hint f.form f.first f.names.now
    (finding f)) rules own in
    let by_hint = subst (λ x. Told c.rules x f.form f.first f.names.now (finding f)) under
    by_rules in
    let by_form = subst (λ x. Told c.rules hint x f.first f.names.now (finding f)) form by_hint in
    let by_first = subst (λ x. Told c.rules hint (found_form c.command) x f.names.now
    (finding f)) first by_form in
    let by_names = subst (λ x. Told c.rules hint (found_form c.command) (after_one c.skipped) x
    (finding f)) names by_first in
    let by_place = subst (λ x. Told c.rules hint (found_form c.command) (after_one c.skipped)
    files (record { place = x; begun = f.begun })) place by_names in
    found db f.matching (finding last) is matching
    (subst (λ x. Told c.rules hint (found_form c.command) (after_one c.skipped) files
    (record { place = after_one c.skipped; begun = x })) begun by_place)

-- what is typed
pub typed_runs : (c : Call) (hint : Option Id) (files : List Name) (t : Typist)
    (db : List Metadata) (before after : Devices) (last : Typist) (end : Result ⊤ Failure) →
    c.command ≡ command.Typed → t.field ≡ record { database = db; hint = hint; keys = [] } →
    AnswersInputs (ActsIn c.encoding (TakesLines begins_with_nothing TypistGives)) files t before
    after last end →
    Runs c hint files before after end
typed_runs c hint files t db before after last end is field act =
    typed db is (typed_by c.encoding files t db hint before after last end field act)

-- short numbers
pub short_runs : (c : Call) (hint : Option Id) (files : List Name) (s : Shorts)
    (before after : Devices) (last : Shorts) (end : Result ⊤ Failure) →
    c.command ≡ command.Short → hint ≡ Some s.region →
    AnswersInputs (ActsIn c.encoding (TakesLines begins_with_nothing ShortsGive)) files s before
    after last end →
    Runs c hint files before after end
short_runs c hint files s before after last end is region act =
    short s.database.now s.region is region (short_by c.encoding files s before after last end act)

-- first lines
pub firsts_runs : (c : Call) (hint : Option Id) (files : List Name) (db : List Metadata)
    (f : FirstLines) (before after : Devices) (last : FirstLines) (end : Result ⊤ Failure) →
    c.command ≡ command.Unique → is_prefix_free db ≡ true →
    f ≡ no_first_lines db c.rules hint →
    AnswersInputs (ActsIn c.encoding (TakesLines begins_with_nothing IsFirstLine)) files f before
    after last end →
    Runs c hint files before after end
firsts_runs c hint files db f before after last end is free none act =
    firsts db last is free
    (subst (λ x. AnswersInputs (ActsIn c.encoding (TakesLines begins_with_nothing IsFirstLine))
    files x before after
    last end) none act)

-- a table
pub table_runs : (c : Call) (hint : Option Id) (files : List Name) (k : Customers)
    (shorts : Option (List Metadata)) (before after : Devices) (last : Totals)
    (end : Result ⊤ Failure) → c.command ≡ command.Table → IsApart c files →
    IsLoaded (shorts_of c) shorts → IsAsked c.table shorts k.asked →
    k.engine.rules ≡ c.rules → k.engine.hint ≡ hint →
    AnswersInputs (ActsIn c.encoding (Tables k.engine.rules k.engine.database.now k.engine.hint
    k.asked)) files
    k.totals before after last end →
    IsTableRun c hint files before after last end
table_runs c hint files k shorts before after last end is apart loaded asked rules under act =
    let db = k.engine.database.now in
    let by_rules = subst (λ x. AnswersInputs (ActsIn c.encoding (Tables x db k.engine.hint
    k.asked)) files k.totals
    before after last end) rules act in
    record {
      db = db;
      short = shorts;
      asked = k.asked;
      first = k.totals;
      is = is;
      apart = apart;
      loaded = loaded;
      by_options = asked;
      answered = subst (λ x. AnswersInputs (ActsIn c.encoding (Tables c.rules db x k.asked)) files k.totals
          before after last end) under by_rules;
    }

-- it ran; or it ran whole, and its summary can't be written
pub table_does : (c : Call) (hint : Option Id) (files : List Name) (k : Customers)
    (shorts : Option (List Metadata)) (before after : Streams) (last : Totals)
    (end : Result ⊤ Failure) (status : ℕ) → c.command ≡ command.Table → IsApart c files →
    IsLoaded (shorts_of c) shorts → IsAsked c.table shorts k.asked →
    k.engine.rules ≡ c.rules → k.engine.hint ≡ hint →
    AnswersInputs (ActsIn c.encoding (Tables k.engine.rules k.engine.database.now k.engine.hint
    k.asked)) files
    k.totals before.devices after.devices last end →
    ((status ≡ status_of c.lenient (strays_of last.counts) end) ⊎
    ((status_of c.lenient (strays_of last.counts) end ≡ 0) × (status ≡ 1) ×
    (is_some c.table.summary ≡ true))) →
    Does c hint files before after status
table_does c hint files k shorts before after last end status is apart loaded asked rules under act
    (inl e) =
    let run = table_runs c hint files k shorts before.devices after.devices last end is apart loaded asked rules under act in
    rw e (ran end (strays_of last.counts) (table last run) (of_table last run))
table_does c hint files k shorts before after last end status is apart loaded asked rules under act
    (inr (whole, one, named)) =
    let run = table_runs c hint files k shorts before.devices after.devices last end is apart loaded asked rules under act in
    rw one (unsummed end last run whole named)

-- lines are those of a command that reads no table
pub lines_ran : (c : Call) (hint : Option Id) (files : List Name) (before after : Streams)
    (t : Tally) (end : Result ⊤ Failure) → is_table c.command ≡ false →
    AnswersInputs (ActsIn c.encoding (TakesLines CountsBegin CountsLine)) files
    (no_tally c.skipped) before.devices after.devices t end →
    Runs c hint files before.devices after.devices end →
    Does c hint files before after (status_of c.lenient t.strays end)
lines_ran c hint files before after t end no_table counted runs =
    ran end t.strays runs (of_lines t no_table counted)

-- a command that finds numbers reads no table
pub finds_no_table : (is : Command) → finds is ≡ true → is_table is ≡ false
finds_no_table command.Find f = refl
finds_no_table command.FoundObjects f = refl
finds_no_table command.FoundRecords f = refl
finds_no_table command.Report f = absurd (cc)
finds_no_table command.ReportWithInput f = absurd (cc)
finds_no_table command.Objects f = absurd (cc)
finds_no_table command.Typed f = absurd (cc)
finds_no_table command.Table f = absurd (cc)
finds_no_table command.Help f = absurd (cc)
finds_no_table command.Version f = absurd (cc)
finds_no_table command.Regions f = absurd (cc)
finds_no_table command.Unique f = absurd (cc)
finds_no_table command.Short f = absurd (cc)
finds_no_table (command.Written form) f = absurd (cc)
