-- What each command answers to its inputs, by what its taker keeps.
use Rattle.std.proofs.Common.{◌≡◌, ℕ, List, [], ◌∷◌, ◌++◌, Option}
use Rattle.std.proofs.Common.{Result, Ok, ap, ap₂, refl, subst, ◌∙◌}
use Rattle.std.specs.Prelude.{⊤, option_map}
use Rattle.phone_commands.specs.Columns.{Extras}
use Rattle.phone_commands.specs.EncodedJobs.{ActsIn}
use Rattle.phone_commands.specs.FoundLines.{IsFoundLine, in_front, name_told}
use Rattle.phone_commands.specs.Inputs.{InputsEnd, IsAnswered, IsStandard, Name}
use Rattle.phone_commands.specs.Jobs.{TakesLines}
use Rattle.phone_commands.specs.ObjectLines.{IsObjectLine, after_one}
use Rattle.phone_commands.specs.ShortLines.{IsShortLine}
use Rattle.phone_commands.specs.TableJobs.{AnswersTable}
use Rattle.phone_commands.specs.TypedLines.{after_line, barred, emptied, shown_after_each}
use Rattle.phone_commands.specs.TypedLines.{typed_chars, typed_line}
use Rattle.phone_commands.specs.declared.customers.Customers.{Customers}
use Rattle.phone_commands.specs.declared.finder.Finder.{Finder}
use Rattle.phone_commands.specs.declared.finder.FoundForm.{FoundForm}
use Rattle.phone_commands.specs.declared.finder.Matching.{Matching}
use Rattle.phone_commands.specs.declared.inputs.Failure.{Failure}
use Rattle.phone_commands.specs.declared.jobs.JobError.{JobError}
use Rattle.phone_commands.specs.declared.jobs.Report.{Report}
use Rattle.phone_commands.specs.declared.reader.Reader.{Reader}
use Rattle.phone_commands.specs.declared.shorts.Shorts.{Shorts}
use Rattle.phone_commands.specs.declared.takers.Objects.{Objects}
use Rattle.phone_commands.specs.WithInputs.{IsWithInput}
use Rattle.phone_commands.specs.declared.typist.Typist.{Typist}
use Rattle.phone_commands.specs.declared.with_input.WithInput.{WithInput}
use Rattle.phone_commands.specs.WrittenLines.{IsWrittenLine}
use Rattle.phone_commands.specs.declared.written.Written.{Written}
use Rattle.phone_encodings.specs.declared.encoding.Encoding.{Encoding}
use Rattle.phone_engine.specs.ReportLines.{IsReportLine}
use Rattle.phone_engine.specs.declared.engine.Engine.{Engine}
use Rattle.phone_lines.specs.Ends.{Devices}
use Rattle.phone_lines.specs.Taken.{begins_with_nothing, each_by_itself}
use Rattle.phone_records.specs.declared.loader.Metadata.{Metadata}
use Rattle.phone_table.specs.declared.run.Asked.{Asked}
use Rattle.phone_table.specs.declared.summed.Totals.{Totals}
use Rattle.phone_typed.specs.Fields.{Field}
use Rattle.phone_values.specs.declared.country.Id.{Id}
use Rattle.phone_cli.specs.Commands.{AnswersInputs, BeginsFound, Finding, GivesFound}
use Rattle.phone_cli.specs.Commands.{GivesObjects, GivesShorts, GivesTyped, GivesWithInput, GivesWritten}
use Rattle.phone_cli.specs.Commands.{Reports, Tables}
use Rattle.phone_cli.specs.Commands.AnswersInputs.{named, standard}
use Rattle.phone_cli.proofs.Carried.{answers_in, lines_by}

not_empty : (name : Name) (names : List Name) → ¬ (name ∷ names ≡ [])
not_empty name names e = cc

-- inputs are answered: standard input where there is no file, else the files
pub answers_of : {Kept : Type 0}
    (acts : Kept → Devices → Devices → Kept → Result ⊤ JobError → Type 0) (files : List Name)
    (first : Kept) (before after : Devices) (last : Kept) (end : Result ⊤ Failure) →
    (files ≡ [] → (name : Name) × IsStandard name ×
    IsAnswered acts name first before after last end) →
    (¬ (files ≡ []) → InputsEnd acts files first before after last end) →
    AnswersInputs acts files first before after last end
answers_of acts [] first before after last end s n =
    let t = s refl in standard t.0 refl t.1 t.2
answers_of acts (f ∷ fs) first before after last end s n =
    let some = not_empty f fs in named some (n some)

-- the report
abbrev pub ReportGives : Report → List ℕ → List ℕ → Report → Type 0
ReportGives = each_by_itself (λ (r : Report). IsReportLine r.reader.engine.rules
    r.reader.engine.database.now r.reader.engine.hint)

pub report_by : (e : Option Encoding) (files : List Name) (r : Report) (before after : Devices)
    (last : Report)
    (end : Result ⊤ Failure) →
    AnswersInputs (ActsIn e (TakesLines begins_with_nothing ReportGives)) files r before after last
    end →
    AnswersInputs (ActsIn e (Reports r.reader.engine.rules r.reader.engine.database.now
    r.reader.engine.hint)) files tt before after tt end
report_by e files r before after last end =
    answers_in (TakesLines begins_with_nothing ReportGives)
    (Reports r.reader.engine.rules r.reader.engine.database.now r.reader.engine.hint)
    (λ _. tt) (λ k. k ≡ r)
    (lines_by begins_with_nothing ReportGives begins_with_nothing
    (each_by_itself (λ _. IsReportLine r.reader.engine.rules r.reader.engine.database.now
    r.reader.engine.hint)) (λ _. tt) (λ k. k ≡ r)
    (λ a head b h is. ((is.0, refl), is.1 ∙ h))
    (λ a line answer b h is. (
      (
        is.0,
        subst (λ (k : Report). IsReportLine k.reader.engine.rules k.reader.engine.database.now
            k.reader.engine.hint line is.0) h is.1,
        is.2,
        refl,
      ),
      is.3 ∙ h,
    ))) e files r before after last end refl

-- objects
abbrev pub ObjectsGive : Objects → List ℕ → List ℕ → Objects → Type 0
ObjectsGive o line answer after = IsObjectLine o.reader.engine.rules
    o.reader.engine.database.now (option_map (λ d. d.now) o.reader.short) o.extra.now
    o.reader.engine.hint o.place line answer × (after ≡ record o { place = after_one o.place })

abbrev pub ReaderGives : Reader → Extras → ℕ → List ℕ → List ℕ → ℕ → Type 0
ReaderGives r extra = GivesObjects r.engine.rules r.engine.database.now
    (option_map (λ d. d.now) r.short) extra r.engine.hint

-- what objects have that stays
record AreObjectsOf (o k : Objects) : Type 0 where
  reader : k.reader ≡ o.reader
  extra : k.extra ≡ o.extra

objects_kept : (o a b : Objects) → AreObjectsOf o a → b.reader ≡ a.reader → b.extra ≡ a.extra → AreObjectsOf o b
objects_kept o a b h e f = record { reader = e ∙ h.reader; extra = f ∙ h.extra }

objects_given : (o a : Objects) (line answer : List ℕ) (b : Objects) → AreObjectsOf o a → ObjectsGive a line answer b →
    ReaderGives o.reader o.extra.now a.place line answer b.place × AreObjectsOf o b
objects_given o a line answer b h is =
    let by_reader = subst (λ (r : Reader). IsObjectLine r.engine.rules r.engine.database.now
    (option_map (λ d. d.now) r.short) a.extra.now r.engine.hint a.place line answer) h.reader is.0 in (
      (
        subst (λ extra. IsObjectLine o.reader.engine.rules o.reader.engine.database.now
            (option_map (λ d. d.now) o.reader.short) extra o.reader.engine.hint a.place line answer) (ap (λ e. e.now) h.extra) by_reader,
        ap (λ (k : Objects). k.place) is.1,
      ),
      objects_kept o a b h (ap (λ (k : Objects). k.reader) is.1) (ap (λ (k : Objects). k.extra) is.1),
    )

pub objects_by : (e : Option Encoding) (files : List Name) (o : Objects) (before after : Devices)
    (last : Objects)
    (end : Result ⊤ Failure) →
    AnswersInputs (ActsIn e (TakesLines begins_with_nothing ObjectsGive)) files o before after last
    end →
    AnswersInputs (ActsIn e (TakesLines begins_with_nothing (ReaderGives o.reader o.extra.now))) files
    o.place before after last.place end
objects_by e files o before after last end =
    answers_in (TakesLines begins_with_nothing ObjectsGive)
    (TakesLines begins_with_nothing (ReaderGives o.reader o.extra.now))
    (λ k. k.place) (AreObjectsOf o)
    (lines_by begins_with_nothing ObjectsGive begins_with_nothing (ReaderGives o.reader o.extra.now)
    (λ k. k.place) (AreObjectsOf o)
    (λ a head b h is. (
      (is.0, ap (λ (k : Objects). k.place) is.1),
      objects_kept o a b h (ap (λ (k : Objects). k.reader) is.1) (ap (λ (k : Objects). k.extra) is.1),
    ))
    (objects_given o)) e files o before after last end (record { reader = refl; extra = refl })

-- found numbers
abbrev pub FinderBegins : Finder → List ℕ → Finder → Type 0
FinderBegins f head after =
    (head ≡ in_front f.form f.begun (name_told f.names.now (after_one f.begun))) ×
    (after ≡ record f { place = f.first; begun = after_one f.begun })

abbrev pub FinderGives : Finder → List ℕ → List ℕ → Finder → Type 0
FinderGives f line answer after = IsFoundLine f.reader.engine.rules
    f.reader.engine.database.now f.reader.engine.hint f.matching f.form
    (name_told f.names.now f.begun) f.place line answer ×
    (after ≡ record f { place = after_one f.place })

abbrev pub finding : Finder → Finding
finding f = record { place = f.place; begun = f.begun }

abbrev pub ReaderFinds : Reader → Option Matching → FoundForm → List Name → Finding → List ℕ →
    List ℕ → Finding → Type 0
ReaderFinds r m form names =
    GivesFound r.engine.rules r.engine.database.now r.engine.hint m form names

-- what a finder has that stays
record IsFinderOf (f k : Finder) : Type 0 where
  reader : k.reader ≡ f.reader
  matching : k.matching ≡ f.matching
  form : k.form ≡ f.form
  first : k.first ≡ f.first
  names : k.names ≡ f.names

after_same : (f a b : Finder) (place begun : ℕ) → IsFinderOf f a →
    b ≡ record a { place = place; begun = begun } → IsFinderOf f b
after_same f a b place begun h e = record {
  reader = ap (λ (k : Finder). k.reader) e ∙ h.reader;
  matching = ap (λ (k : Finder). k.matching) e ∙ h.matching;
  form = ap (λ (k : Finder). k.form) e ∙ h.form;
  first = ap (λ (k : Finder). k.first) e ∙ h.first;
  names = ap (λ (k : Finder). k.names) e ∙ h.names;
}

finder_begun : (f a : Finder) (head : List ℕ) (b : Finder) → IsFinderOf f a →
    FinderBegins a head b →
    BeginsFound f.form f.names.now f.first (finding a) head (finding b) × IsFinderOf f b
finder_begun f a head b h is = (
  (
    is.0 ∙ ap₂ (λ form names. in_front form a.begun (name_told names (after_one a.begun)))
        h.form (ap (λ n. n.now) h.names),
    ap finding is.1 ∙
        ap (λ (p : ℕ). record { place = p; begun = after_one a.begun }) h.first,
  ),
  after_same f a b a.first (after_one a.begun) h is.1,
)

finder_given : (f a : Finder) (line answer : List ℕ) (b : Finder) → IsFinderOf f a →
    FinderGives a line answer b →
    ReaderFinds f.reader f.matching f.form f.names.now (finding a) line answer (finding b) ×
    IsFinderOf f b
finder_given f a line answer b h is =
    let by_reader = subst (λ (r : Reader). IsFoundLine r.engine.rules r.engine.database.now
    r.engine.hint a.matching a.form (name_told a.names.now a.begun) a.place line answer) h.reader
    is.0 in
    let by_matching = subst (λ m. IsFoundLine f.reader.engine.rules
    f.reader.engine.database.now f.reader.engine.hint m a.form (name_told a.names.now a.begun)
    a.place line answer) h.matching by_reader in
    let by_form = subst (λ form. IsFoundLine f.reader.engine.rules
    f.reader.engine.database.now f.reader.engine.hint f.matching form
    (name_told a.names.now a.begun) a.place line answer) h.form by_matching in
    let by_names = subst (λ names. IsFoundLine f.reader.engine.rules
    f.reader.engine.database.now f.reader.engine.hint f.matching f.form (name_told names a.begun)
    a.place line answer) (ap (λ n. n.now) h.names) by_form in
    ((by_names, ap finding is.1), after_same f a b (after_one a.place) a.begun h is.1)

pub found_by : (e : Option Encoding) (files : List Name) (f : Finder) (before after : Devices)
    (last : Finder)
    (end : Result ⊤ Failure) →
    AnswersInputs (ActsIn e (TakesLines FinderBegins FinderGives)) files f before after last end →
    AnswersInputs (ActsIn e (TakesLines (BeginsFound f.form f.names.now f.first)
    (ReaderFinds f.reader f.matching f.form f.names.now))) files (finding f) before after
    (finding last) end
found_by e files f before after last end =
    answers_in (TakesLines FinderBegins FinderGives)
    (TakesLines (BeginsFound f.form f.names.now f.first)
    (ReaderFinds f.reader f.matching f.form f.names.now)) finding (IsFinderOf f)
    (lines_by FinderBegins FinderGives (BeginsFound f.form f.names.now f.first)
    (ReaderFinds f.reader f.matching f.form f.names.now) finding (IsFinderOf f)
    (finder_begun f) (finder_given f)) e files f before after last end
    (record { reader = refl; matching = refl; form = refl; first = refl; names = refl })

-- what is typed
abbrev pub TypistGives : Typist → List ℕ → List ℕ → Typist → Type 0
TypistGives t line answer after =
    (answer ≡ typed_line t.field line) × (after.field ≡ after_line t.field line)

pub typed_by : (e : Option Encoding) (files : List Name) (t : Typist) (db : List Metadata) (hint :
    Option Id)
    (before after : Devices) (last : Typist) (end : Result ⊤ Failure) →
    t.field ≡ record { database = db; hint = hint; keys = [] } →
    AnswersInputs (ActsIn e (TakesLines begins_with_nothing TypistGives)) files t before after last
    end →
    AnswersInputs (ActsIn e (TakesLines begins_with_nothing (GivesTyped db hint))) files tt before
    after tt
    end
typed_by e files t db hint before after last end is =
    let field : Field = record { database = db; hint = hint; keys = [] } in
    answers_in (TakesLines begins_with_nothing TypistGives)
    (TakesLines begins_with_nothing (GivesTyped db hint))
    (λ _. tt) (λ (k : Typist). emptied k.field ≡ field)
    (lines_by begins_with_nothing TypistGives begins_with_nothing (GivesTyped db hint)
    (λ _. tt) (λ (k : Typist). emptied k.field ≡ field)
    (λ a head b h s. ((s.0, refl), ap (λ (k : Typist). emptied k.field) s.1 ∙ h))
    (λ a line answer b h s. (
      s.0 ∙ ap (λ f. barred (shown_after_each f (typed_chars line)) ++ 10 ∷ []) h,
      ap emptied s.1 ∙ h,
    ))) e files t before after last end (ap emptied is)

-- the report, with the lines
abbrev pub WithInputGives : WithInput → List ℕ → List ℕ → WithInput → Type 0
WithInputGives = each_by_itself (λ (w : WithInput). IsWithInput w.engine.rules w.engine.database.now w.engine.hint)

pub with_input_by : (e : Option Encoding) (files : List Name) (w : WithInput)
    (before after : Devices) (last : WithInput) (end : Result ⊤ Failure) →
    AnswersInputs (ActsIn e (TakesLines begins_with_nothing WithInputGives)) files w before
    after last end →
    AnswersInputs (ActsIn e (TakesLines begins_with_nothing
    (GivesWithInput w.engine.rules w.engine.database.now w.engine.hint))) files tt
    before after tt end
with_input_by e files w before after last end =
    answers_in (TakesLines begins_with_nothing WithInputGives)
    (TakesLines begins_with_nothing
    (GivesWithInput w.engine.rules w.engine.database.now w.engine.hint))
    (λ _. tt) (λ k. k ≡ w)
    (lines_by begins_with_nothing WithInputGives begins_with_nothing
    (GivesWithInput w.engine.rules w.engine.database.now w.engine.hint) (λ _. tt) (λ k. k ≡ w)
    (λ a head b h is. ((is.0, refl), is.1 ∙ h))
    (λ a line answer b h is. (
      (
        is.0,
        subst (λ (k : WithInput). IsWithInput k.engine.rules k.engine.database.now
            k.engine.hint line is.0) h is.1,
        is.2,
        refl,
      ),
      is.3 ∙ h,
    ))) e files w before after last end refl

-- numbers in a format
abbrev pub WrittenGives : Written → List ℕ → List ℕ → Written → Type 0
WrittenGives = each_by_itself (λ (w : Written). IsWrittenLine w.engine.rules w.engine.database.now w.engine.hint w.form)

pub written_by : (e : Option Encoding) (files : List Name) (w : Written)
    (before after : Devices) (last : Written) (end : Result ⊤ Failure) →
    AnswersInputs (ActsIn e (TakesLines begins_with_nothing WrittenGives)) files w before
    after last end →
    AnswersInputs (ActsIn e (TakesLines begins_with_nothing
    (GivesWritten w.engine.rules w.engine.database.now w.engine.hint w.form))) files tt
    before after tt end
written_by e files w before after last end =
    answers_in (TakesLines begins_with_nothing WrittenGives)
    (TakesLines begins_with_nothing
    (GivesWritten w.engine.rules w.engine.database.now w.engine.hint w.form))
    (λ _. tt) (λ k. k ≡ w)
    (lines_by begins_with_nothing WrittenGives begins_with_nothing
    (GivesWritten w.engine.rules w.engine.database.now w.engine.hint w.form) (λ _. tt) (λ k. k ≡ w)
    (λ a head b h is. ((is.0, refl), is.1 ∙ h))
    (λ a line answer b h is. (
      (
        is.0,
        subst (λ (k : Written). IsWrittenLine k.engine.rules k.engine.database.now
            k.engine.hint k.form line is.0) h is.1,
        is.2,
        refl,
      ),
      is.3 ∙ h,
    ))) e files w before after last end refl

-- short numbers
abbrev pub ShortsGive : Shorts → List ℕ → List ℕ → Shorts → Type 0
ShortsGive = each_by_itself (λ (s : Shorts). IsShortLine s.database.now s.region)

pub short_by : (e : Option Encoding) (files : List Name) (s : Shorts) (before after : Devices)
    (last : Shorts)
    (end : Result ⊤ Failure) →
    AnswersInputs (ActsIn e (TakesLines begins_with_nothing ShortsGive)) files s before after last
    end →
    AnswersInputs (ActsIn e (TakesLines begins_with_nothing (GivesShorts s.database.now s.region)))
    files tt
    before after tt end
short_by e files s before after last end =
    answers_in (TakesLines begins_with_nothing ShortsGive)
    (TakesLines begins_with_nothing (GivesShorts s.database.now s.region))
    (λ _. tt) (λ k. k ≡ s)
    (lines_by begins_with_nothing ShortsGive begins_with_nothing
    (GivesShorts s.database.now s.region) (λ _. tt) (λ k. k ≡ s)
    (λ a head b h is. ((is.0, refl), is.1 ∙ h))
    (λ a line answer b h is. (
      (
        is.0,
        subst (λ (k : Shorts). IsShortLine k.database.now k.region line is.0) h is.1,
        is.2,
        refl,
      ),
      is.3 ∙ h,
    ))) e files s before after last end refl

-- a table
abbrev pub CustomersAct : Customers → Devices → Devices → Customers → Result ⊤ JobError → Type 0
CustomersAct c before after c' result = AnswersTable c.engine.rules c.engine.database.now
    c.engine.hint c.asked before after c'.totals result ×
    (c' ≡ record c { totals = c'.totals; unknown = c'.unknown })

abbrev pub EngineAnswers : Engine → Asked → Totals → Devices → Devices → Totals →
    Result ⊤ JobError → Type 0
EngineAnswers e = Tables e.rules e.database.now e.hint

-- what a table's job has that stays
record IsTableOf (c k : Customers) : Type 0 where
  engine : k.engine ≡ c.engine
  asked : k.asked ≡ c.asked

customers_act : (c a : Customers) (before after : Devices) (b : Customers)
    (end : Result ⊤ JobError) → IsTableOf c a → CustomersAct a before after b end →
    EngineAnswers c.engine c.asked a.totals before after b.totals end ×
    (end ≡ Ok tt → IsTableOf c b)
customers_act c a before after b end h act =
    let by_engine = subst (λ (e : Engine). EngineAnswers e a.asked a.totals before after
    b.totals end) h.engine act.0 in (
      subst (λ (q : Asked). EngineAnswers c.engine q a.totals before after b.totals end)
          h.asked by_engine,
      λ _. record {
        engine = ap (λ (k : Customers). k.engine) act.1 ∙ h.engine;
        asked = ap (λ (k : Customers). k.asked) act.1 ∙ h.asked;
      },
    )

pub table_by : (e : Option Encoding) (files : List Name) (c : Customers) (before after : Devices)
    (last : Customers)
    (end : Result ⊤ Failure) →
    AnswersInputs (ActsIn e CustomersAct) files c before after last end →
    AnswersInputs (ActsIn e (EngineAnswers c.engine c.asked)) files c.totals before after
    last.totals end
table_by e files c before after last end =
    answers_in CustomersAct (EngineAnswers c.engine c.asked)
    (λ k. k.totals) (IsTableOf c) (customers_act c) e files c before after last end
    (record { engine = refl; asked = refl })
