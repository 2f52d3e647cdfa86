-- What is wrong with a database text is told as a key that may not stand there, or as a value of the wrong kind.
use Rattle.std.proofs.Common.{◌≡◌, ◌⊎◌, inl, inr, ℕ, List, [], ◌∷◌, map, Option, Some, None, Result, Ok, Err, MatchOption, MatchResult, refl, ap, sym, arith, ◌∙◌, codes}
use Rattle.std.specs.Prelude.{IfSome, IfErr, option_map, option_and_then}
use Rattle.std.specs.Option.{option_or, option_map_or}
use Rattle.std.specs.Result.{result_map_both}
use Rattle.serde_json.specs.Data.{Data}
use Rattle.serde_json.specs.Find.{as_bool, as_str, as_object}
use Rattle.serde_json.specs.Read.{read}
use Rattle.phone_base.specs.Errors.{told}
use Rattle.phone_records.specs.Missing.{first_given, first_missing}
use Rattle.phone_base.specs.declared.error.LoadMetadata.{LoadMetadata}
use Rattle.phone_base.specs.declared.error.LoadMetadata.TheVariants as error
use Rattle.phone_records.specs.declared.loader.Metadata.{Metadata}
use Rattle.phone_records.specs.declared.missing.Missing.{Missing}
use Rattle.phone_json.specs.Fields.{field, as_small, as_list}
use Rattle.phone_json.specs.Faults.{Refusal, no_json, unknown_key, wrong_kind, least_unknown, unknown_fault, fault_if_none, text_fault, number_fault, truth_fault, list_fault, record_fault, fault_at, descriptor_fault, format_fault, defaults_fault, fault_behind_prefixes, metadata_fault, database_fault, kind_keys, metadata_keys, prefix_keys}
use Rattle.phone_json.specs.Records.{records_in, records_of}
use Rattle.phone_territory.specs.Refusals.{IsPatternRefusal}
use Rattle.phone_plans.specs.Refusals.{IsRefusalOf, TellsMissing, patterns}
use Rattle.phone_plans.specs.Texts.{IsTextRefusal, faults_of}

-- a key that may not stand there, or a value of the wrong kind
abbrev IsFault : Refusal → Type 0
IsFault r = (r.0 ≡ 2) ⊎ (r.0 ≡ 4)

-- nothing, or one of these
record AreFaults (o : Option Refusal) : Type 0 where
  are : IfSome o IsFault

-- a check of a value tells nothing else, where that is what it tells of a wrong kind
abbrev Tells : (Refusal → Data → Option Refusal) → Type 0
Tells f = (wrong : Refusal) (d : Data) → IsFault wrong → AreFaults (f wrong d)

nothing : AreFaults None
nothing = record { are = tt }

or : {a b : Option Refusal} → AreFaults a → AreFaults b → AreFaults (option_or a b)
or {a = None} h k = k
or {a = Some r} h k = h

mapped : {X : Type 0} (f : X → Option Refusal) → ((x : X) → AreFaults (f x)) → (xs : List X) → AreFaults (first_given (map f xs))
mapped f h [] = nothing
mapped f h (x ∷ xs) = or (h x) (mapped f h xs)

a_key : (phase : List ℕ) (o : Option (List ℕ)) → AreFaults (option_map (unknown_key phase) o)
a_key phase None = nothing
a_key phase (Some key) = record { are = inl refl }

unknown : (phase : List ℕ) (known : List (List ℕ)) (d : Data) → AreFaults (unknown_fault phase known d)
unknown phase known d = a_key phase (option_and_then (least_unknown known) (as_object d))

unless : {X : Type 0} (wrong : Refusal) (o : Option X) → IsFault wrong → AreFaults (fault_if_none wrong o)
unless wrong None h = record { are = h }
unless wrong (Some x) h = nothing

text : Tells text_fault
text wrong d = unless wrong (as_str d)

number : Tells number_fault
number wrong d = unless wrong (as_small d)

truth : Tells truth_fault
truth wrong d = unless wrong (as_bool d)

listed : (f : Refusal → Data → Option Refusal) (wrong : Refusal) (o : Option (List Data)) → Tells f → IsFault wrong →
    AreFaults (option_map_or (λ items. first_given (map (f wrong) items)) o (Some wrong))
listed f wrong None t h = record { are = h }
listed f wrong (Some items) t h = mapped (f wrong) (λ d. t wrong d h) items

list : (f : Refusal → Data → Option Refusal) → Tells f → Tells (list_fault f)
list f t wrong d h = listed f wrong (as_list d) t h

inside : {X : Type 0} (wrong : Refusal) (fault : Option Refusal) (o : Option X) → AreFaults fault → IsFault wrong →
    AreFaults (option_map_or (λ _. fault) o (Some wrong))
inside wrong fault None t h = record { are = h }
inside wrong fault (Some ms) t h = t

a_record : (f : Data → Option Refusal) → ((d : Data) → AreFaults (f d)) → Tells (record_fault f)
a_record f t wrong d h = inside wrong (f d) (as_object d) (t d) h

there : (f : Refusal → Data → Option Refusal) (wrong : Refusal) (o : Option Data) → Tells f → IsFault wrong → AreFaults (option_and_then (f wrong) o)
there f wrong None t h = nothing
there f wrong (Some d) t h = t wrong d h

at : (f : Refusal → Data → Option Refusal) → Tells f → (phase : List ℕ) (d : Data) (key : List ℕ) → AreFaults (fault_at f phase d key)
at f t phase d key = there f (wrong_kind phase key) (field key d) t (inr refl)

ruleset values = (nothing, or, unknown, at, text, number, truth, list)

descriptor : (d : Data) → AreFaults (descriptor_fault d)
unfolding descriptor_fault
descriptor d = search values depth 12

a_descriptor : Tells (record_fault descriptor_fault)
a_descriptor = a_record descriptor_fault descriptor

format : (d : Data) → AreFaults (format_fault d)
unfolding format_fault
format d = search values depth 12

a_format : Tells (record_fault format_fault)
a_format = a_record format_fault format

defaults : (d : Data) → AreFaults (defaults_fault d)
unfolding defaults_fault
defaults d = search (values, a_format, a_descriptor) depth 12

some_defaults : Tells (record_fault defaults_fault)
some_defaults = a_record defaults_fault defaults

behind_prefixes : (d : Data) → AreFaults (fault_behind_prefixes d)
unfolding fault_behind_prefixes
behind_prefixes d = search (values, a_format, some_defaults) depth 12

descriptors : (d : Data) → AreFaults (first_given (map (fault_at (record_fault descriptor_fault) (codes "metadata") d) kind_keys))
descriptors d = mapped (fault_at (record_fault descriptor_fault) (codes "metadata") d) (at (record_fault descriptor_fault) a_descriptor (codes "metadata") d) kind_keys

prefixes : (d : Data) → AreFaults (first_given (map (fault_at text_fault (codes "metadata") d) prefix_keys))
prefixes d = mapped (fault_at text_fault (codes "metadata") d) (at text_fault text (codes "metadata") d) prefix_keys

metadata : (d : Data) → AreFaults (metadata_fault d)
unfolding metadata_fault
metadata d =
    let phase = codes "metadata" in
    or (unknown phase metadata_keys d)
    (or (descriptors d)
    (or (at text_fault text phase d (codes "id"))
    (or (at number_fault number phase d (codes "country_code")) (or (prefixes d) (or (behind_prefixes d) nothing)))))

in_database : (d : Data) → AreFaults (database_fault d)
in_database d = list (record_fault metadata_fault) (a_record metadata_fault metadata) (wrong_kind (codes "database") (codes "records")) d (inr refl)

apart : (n m : ℕ) → (n ≡ 2) ⊎ (n ≡ 4) → n ≡ m → (2 ≡ m → ⊥) → (4 ≡ m → ⊥) → ⊥
apart n m (inl p) q two four = two (sym p ∙ q)
apart n m (inr p) q two four = four (sym p ∙ q)

-- records, or a refusal by a fault of theirs
abbrev Answer : Type 0
Answer = Result (List Metadata) Refusal

not_no_json : (fault : Option Refusal) (records : List Metadata) → AreFaults fault → option_map_or {T = Refusal} {U = Answer} Err fault (Ok records) ≡ Err no_json → ⊥
not_no_json None records h e = cc
not_no_json (Some r) records h e =
    let same : r ≡ no_json = cc in
    apart r.0 3 h.are (ap (λ (x : Refusal). x.0) same) (λ e. omega (arith, e)) (λ e. omega (arith, e))

unread : (o : Option Data) → option_map_or records_in o (Err no_json) ≡ Err no_json → o ≡ None
unread None e = refl
unread (Some d) e = absurd (not_no_json (database_fault d) _ (in_database d) e)

-- a text is answered by `Json` only where it isn't read
pub read-none : {V : Type 0} (items : V → List Metadata) (bytes : List ℕ) (r : Result V LoadMetadata) →
    (r ≡ Err error.Memory) ⊎ (result_map_both items told r ≡ records_of bytes) → r ≡ Err error.Json → read bytes ≡ None
read-none items bytes r (inl m) e = absurd (cc)
read-none items bytes r (inr h) e = unread (read bytes) (sym h ∙ ap (result_map_both items told) e)

not_io_of_missing : (ps : List (List ℕ)) (o : Option Missing) → MatchOption o (IsPatternRefusal ps error.Io) (λ missing. TellsMissing missing error.Io) → ⊥
not_io_of_missing ps None h = h
not_io_of_missing ps (Some missing) h = let e : 6 ≡ 1 = ap (λ (x : Refusal). x.0) h in omega (arith, e)

not_io_of_records : (db : List Metadata) → IsRefusalOf db error.Io → ⊥
not_io_of_records db (inl h) = not_io_of_missing (patterns db) (first_missing db) h
not_io_of_records db (inr e) = cc

not_io_of_fault : (fault : Option Refusal) (records : List Metadata) → AreFaults fault →
    MatchResult (option_map_or {T = Refusal} {U = Answer} Err fault (Ok records)) (λ records. IsRefusalOf records error.Io) (λ refusal. told error.Io ≡ refusal) → ⊥
not_io_of_fault None records h k = not_io_of_records records k
not_io_of_fault (Some r) records h k = apart r.0 6 h.are (ap (λ (x : Refusal). x.0) (sym k)) (λ e. omega (arith, e)) (λ e. omega (arith, e))

not_io_of_data : (o : Option Data) → MatchResult (option_map_or records_in o (Err no_json)) (λ records. IsRefusalOf records error.Io) (λ refusal. told error.Io ≡ refusal) → ⊥
not_io_of_data None h = let e : 6 ≡ 3 = ap (λ (x : Refusal). x.0) h in omega (arith, e)
not_io_of_data (Some d) h = not_io_of_fault (database_fault d) _ (in_database d) h

not_io : (bytes : List ℕ) → IsTextRefusal bytes error.Io → ⊥
not_io bytes (inl h) = not_io_of_data (read bytes) h
not_io bytes (inr e) = cc

-- a text is never refused by `Io`
pub faults_of-text : (bytes : List ℕ) (r : Result (List Metadata) LoadMetadata) → IfErr r (IsTextRefusal bytes) → faults_of r ≡ 0
faults_of-text bytes (Ok d) h = refl
faults_of-text bytes (Err (error.Metadata f)) h = refl
faults_of-text bytes (Err error.Json) h = refl
faults_of-text bytes (Err (error.Kind phase name)) h = refl
faults_of-text bytes (Err (error.Regex p)) h = refl
faults_of-text bytes (Err error.Io) h = absurd (not_io bytes h)
faults_of-text bytes (Err error.Memory) h = refl

-- nor are records
pub faults_of-records : (db : List Metadata) (r : Result (List Metadata) LoadMetadata) → IfErr r (IsRefusalOf db) → faults_of r ≡ 0
faults_of-records db (Ok d) h = refl
faults_of-records db (Err (error.Metadata f)) h = refl
faults_of-records db (Err error.Json) h = refl
faults_of-records db (Err (error.Kind phase name)) h = refl
faults_of-records db (Err (error.Regex p)) h = refl
faults_of-records db (Err error.Io) h = absurd (not_io_of_records db h)
faults_of-records db (Err error.Memory) h = refl
