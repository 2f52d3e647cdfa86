use Rattle.std.proofs.Common.{rules, ◌≡◌, inl, inr, ⊎_elim, ℕ, List, Option, option_map, Err, ap, sym, subst, ◌∙◌, true≢false}
use Rattle.std.specs.Cow.{cow_str_bytes}
use Rattle.std.specs.Option.{option_copied}
use Rattle.std.specs.Str.{chars}
use Rattle.phone_chars.specs.Norm.{norm}
use Rattle.phone_chars.specs.Viable.{IsViable}
use Rattle.phone_values.specs.declared.country.Id.{Id}
use Rattle.phone_values.specs.declared.country.Source.{Source}
use Rattle.phone_records.specs.declared.loader.Metadata.{Metadata}
use Rattle.phone_parts.specs.Parts.{parts_of}
use Rattle.phone_read.specs.Hints.{Coded}
use Rattle.phone_read.specs.Numbering.{reading_of}
use Rattle.phone_read.specs.Readings
use Rattle.phone_read.specs.Readings.{Reads, stripping_territory}
use Rattle.phone_read.specs.Strips.{stripped}
use Rattle.phone_read.proofs.reading.read.Goals as goal

pub returns-in_default : goal.returns-in_default
returns-in_default c = inr (Readings.no_parts c.in_default.ensures.read)

pub returns-then-not-is_viable : goal.returns-then-not-is_viable
returns-then-not-is_viable c =
    inr (Readings.not_viable (parts_of c.in-Some.parts) c.in-Some.ensures.read
    (λ v. true≢false (sym ((rw c.as_str.ensures.value at c.is_viable.ensures).1 v) ∙ c.if-not-is_viable.true)))

pub returns-in_err-coded : goal.returns-in_err-coded
returns-in_err-coded c =
    let same : c.from_residual.result ≡ Err c.in_err-coded.field-0.0 = search rules in
    let viable : IsViable (parts_of c.in-Some.parts).national = (rw c.as_str.ensures.value at c.is_viable.ensures).0 c.if-not-is_viable.false in
    ⊎_elim (λ f. inl (same ∙ ap Err f))
    (λ f. inr (subst (Reads c.args.db.now c.args.hint (chars c.args.text.now)) (sym same)
    (Readings.no_code (parts_of c.in-Some.parts) c.in_err-coded.field-0.0 c.in-Some.ensures.read viable f)))
    c.in_err-coded.ensures.refused

-- a number is read by its code, and stripped by the territory that goes with it
same_reading : (db : List Metadata) (hint : Option Id) (x : Coded) (m : Option Metadata) (s : Source) (v : ℕ) (r : List ℕ) (e f : Option (List ℕ)) →
    s ≡ x.source → v ≡ x.value → r ≡ x.rest → e ≡ f → m ≡ stripping_territory db hint (record { source = s; value = v; rest = r }) →
    reading_of (record { source = s; value = v; rest = r }) e (stripped m r) ≡ reading_of x f (stripped (stripping_territory db hint x) x.rest)
same_reading db hint x m s v r e f es ev er ee em =
    let by = λ (s : Source) (v : ℕ) (r : List ℕ) (e : Option (List ℕ)).
    reading_of (record { source = s; value = v; rest = r }) e (stripped (stripping_territory db hint (record { source = s; value = v; rest = r })) r) in
    ap (λ o. reading_of (record { source = s; value = v; rest = r }) e (stripped o r)) em
    ∙ ap (λ y. by y v r e) es ∙ ap (λ y. by x.source y r e) ev ∙ ap (λ y. by x.source x.value y e) er ∙ ap (by x.source x.value x.rest) ee

pub returns : goal.returns
returns c =
    let parts = parts_of c.in-Some.parts in
    let number = c.in_ok-coded.coded.number in
    let found = c.in_ok-coded.ensures.coded in
    let viable : IsViable parts.national = (rw c.as_str.ensures.value at c.is_viable.ensures).0 c.if-not-is_viable.false in
    let same =
    same_reading c.args.db.now c.args.hint found.0 (option_copied c.in_ok-territory.territory) number.country c.in_ok-coded.coded.code
    (cow_str_bytes number.national) (option_map cow_str_bytes number.extension) (option_map norm parts.extension)
    found.3.country found.2 found.3.national found.3.extension (c.in_ok-territory.ensures number.country c.in_ok-coded.ensures.territory) in
    ⊎_elim (λ f. inl f)
    (λ f. inr (subst (Reads c.args.db.now c.args.hint (chars c.args.text.now)) (sym (f ∙ same)) (Readings.coded parts found.0 c.in-Some.ensures.read viable found.1)))
    c.reading_of.ensures
