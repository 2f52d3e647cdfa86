-- In each table of prefixes a text is found, or none, and columns tell something of each field.
use Rattle.std.proofs.Common.{◌≡◌, ◌⊎◌, ⊎_elim, inl, inr, ℕ, true, false, List, []}
use Rattle.std.proofs.Common.{◌∷◌, ◌++◌}
use Rattle.std.proofs.Common.{take, drop, length, Option, None, Some, refl, sym, ap, subst, ◌∙◌}
use Rattle.std.proofs.Common.{arith, chars, is_some, true≢false, unwrap_or, Bool}
use Rattle.std.specs.Borrow.{Bor}
use Rattle.std.specs.Option.{option_copied}
use Rattle.std.specs.Result.{result_ok}
use Rattle.std.proofs.Math.Seq.{take-append_seam}
use Rattle.std.proofs.lemmas.Bool.{cases_lt, or_parts}
use Rattle.std.proofs.lemmas.List.{take-append-drop}
use Rattle.std.proofs.lemmas.List.Elements.{Contains-append_left, Contains-append_cases}
use Rattle.std.proofs.lemmas.List.Elements.{Contains-append_right, Contains-push}
use Rattle.std.proofs.lemmas.List.Elements.{Contains-push_cases}
use Rattle.std.specs.List.{Contains}
use Rattle.phone_values.specs.declared.country.Id.{Id}
use Rattle.phone_values.specs.declared.reading.Reading.{Reading}
use Rattle.phone_values.specs.declared.rules.Rules.{Rules}
use Rattle.phone_csv.specs.Formats.{Record}
use Rattle.phone_engine.specs.Facts.{kind_by, region_by}
use Rattle.phone_prefixes.proofs.Entries.{cases_text}
use Rattle.phone_prefixes.specs.Marks.{Begins}
use Rattle.phone_prefixes.specs.Tables.{AreEntries, Entry, IsLongest, IsTable, NoneBegins}
use Rattle.phone_prefixes.specs.Tables.AreEntries.{none as no_entries, next as next_entry}
use Rattle.phone_records.specs.declared.loader.Metadata.{Metadata}
use Rattle.phone_answers.specs.Extras.{AreTold, HaveOneText, IsAreaIn, IsFound, IsIf, IsOfTables, IsPartOr, IsSpoken, IsTold, entries_in, part_of}
use Rattle.phone_answers.specs.Extras.{IsToldBeside, IsToldBy, IsToldIf, ask_fields, split_in, tells_doubts, tells_of_field, zone_digits}
use Rattle.phone_answers.specs.declared.extra.Told.{Told}
use Rattle.phone_answers.specs.declared.extra.Told.TheVariants as kind
use Rattle.phone_languages.specs.Told.{IsTextIn, told as text_told}
use Rattle.phone_library_laws.proofs.ReadOnce.{reading_some}
use Rattle.phone_library_text.proofs.WrittenSome.{some_written}
use Rattle.phone_places.specs.Maps.{digits_of}
use Rattle.phone_places.specs.Areas.{IsOther, behind_token}
use Rattle.phone_values.specs.Numbers.{text_of}
use Rattle.phone_values.specs.declared.country.Id.TheVariants.{AR}
use Rattle.phone_values.specs.declared.kind.«Type».{«Type»}
use Rattle.phone_answers.specs.declared.split.Shown.{Shown}
use Rattle.phone_answers.specs.declared.split.Which.{Which}
use Rattle.phone_answers.specs.Extras.AreTold.{none as told_none, next as told_next}
use Rattle.phone_answers.specs.declared.extra.Extra.{Extra}

-- a prefix begins a text, or it doesn't
begins_or_not : (prefix text : List ℕ) → Begins prefix text ⊎ (Begins prefix text → ⊥)
begins_or_not prefix text = ⊎_elim
    (λ e. inl (
      drop (length prefix) text,
      sym (take-append-drop (length prefix) text)
          ∙ ap (λ front. front ++ drop (length prefix) text) e,
    ))
    (λ other. inr (λ b. other (ap (take (length prefix)) b.1 ∙ take-append_seam prefix b.0)))
    (cases_text (take (length prefix) text) prefix)

pub nothing_in : (x : Entry) → Contains [] x → ⊥
nothing_in x h = absurd (omega (arith, h.1))

first_in : (e : Entry) (es : List Entry) → Contains (e ∷ es) e
first_in e es = Contains-append_left (e ∷ []) es e (Contains-push [] e)

later_in : (e : Entry) (es : List Entry) (x : Entry) → Contains es x → Contains (e ∷ es) x
later_in e es x h = Contains-append_right (e ∷ []) es x h

-- an entry of a list is the first one, or one of the others
first_or : (e : Entry) (es : List Entry) (x : Entry) → Contains (e ∷ es) x → (e ≡ x) ⊎ Contains es x
first_or e es x h = ⊎_elim
    (λ first. ⊎_elim (λ none. absurd (nothing_in x none)) (λ is. inl is)
    (Contains-push_cases [] e x first))
    (λ later. inr later)
    (Contains-append_cases (e ∷ []) es x h)

-- the longest prefix that begins a text, or none
abbrev HasLongest : List Entry → List ℕ → Type 0
HasLongest entries text = ((e : Entry) × IsLongest entries text e) ⊎ NoneBegins entries text

-- the first entry begins the text, and of the others this one is the longest
longer : (e : Entry) (es : List Entry) (text : List ℕ) → Begins e.prefix text →
    (l : Entry) → IsLongest es text l → HasLongest (e ∷ es) text
longer e es text b l h = ⊎_elim
    (λ less. inl (
      e,
      record {
        is = first_in e es;
        begins = b;
        longest = λ x is begins. ⊎_elim
            (λ same. omega (arith, ap (λ (y : Entry). length y.prefix) same))
            (λ later. omega (arith, less, h.longest x later begins)) (first_or e es x is);
      },
    ))
    (λ more. inl (
      l,
      record {
        is = later_in e es l h.is;
        begins = h.begins;
        longest = λ x is begins. ⊎_elim
            (λ same. omega (arith, more, ap (λ (y : Entry). length y.prefix) same))
            (λ later. h.longest x later begins) (first_or e es x is);
      },
    ))
    (cases_lt (length l.prefix) (length e.prefix))

-- it alone begins the text
alone : (e : Entry) (es : List Entry) (text : List ℕ) → Begins e.prefix text →
    NoneBegins es text → HasLongest (e ∷ es) text
alone e es text b none = inl (
  e,
  record {
    is = first_in e es;
    begins = b;
    longest = λ x is begins. ⊎_elim
        (λ same. omega (arith, ap (λ (y : Entry). length y.prefix) same))
        (λ later. absurd (none x later begins)) (first_or e es x is);
  },
)

-- it doesn't begin the text
passed : (e : Entry) (es : List Entry) (text : List ℕ) → (Begins e.prefix text → ⊥) →
    HasLongest es text → HasLongest (e ∷ es) text
passed e es text other (inl (l, h)) = inl (
  l,
  record {
    is = later_in e es l h.is;
    begins = h.begins;
    longest = λ x is begins. ⊎_elim
        (λ same. absurd (other (subst (λ (y : Entry). Begins y.prefix text) (sym same) begins)))
        (λ later. h.longest x later begins) (first_or e es x is);
  },
)
passed e es text other (inr none) = inr (λ x is begins. ⊎_elim
    (λ same. other (subst (λ (y : Entry). Begins y.prefix text) (sym same) begins))
    (λ later. none x later begins) (first_or e es x is))

has_longest : (entries : List Entry) (text : List ℕ) → HasLongest entries text
has_longest [] text = inr (λ x is begins. nothing_in x is)
has_longest (e ∷ es) text = by (begins_or_not e.prefix text) (has_longest es text)
  where
    by : Begins e.prefix text ⊎ (Begins e.prefix text → ⊥) → HasLongest es text →
        HasLongest (e ∷ es) text
    by (inl b) (inl (l, h)) = longer e es text b l h
    by (inl b) (inr none) = alone e es text b none
    by (inr other) h = passed e es text other h

-- what a table has for digits, or for none
found_some : (entries : List Entry) (o : Option (List ℕ)) → (text : List ℕ) × IsFound entries o text
found_some entries None = ([], refl)
found_some entries (Some digits) = by (has_longest entries digits)
  where
    by : HasLongest entries digits → (text : List ℕ) × IsFound entries (Some digits) text
    by (inl (e, h)) = (e.text, inl (e.prefix, h))
    by (inr none) = ([], inr (none, refl))

-- where entries come one after the other, each with another prefix, a prefix has one text
entries_one : (lines : List (List ℕ)) (entries : List Entry) → AreEntries lines entries →
    HaveOneText entries
entries_one _ _ no_entries a b h g e = absurd (nothing_in a h)
entries_one _ _ (next_entry lines entries all line are more) a b h g e =
    ⊎_elim (λ in_a. ⊎_elim (λ in_b. entries_one lines entries are a b in_a in_b e)
    (λ is_b. absurd (more.other (a, in_a, e ∙ sym (ap (λ (x : Entry). x.prefix) is_b)))) (last b g))
    (λ is_a. ⊎_elim
    (λ in_b. absurd (more.other (b, in_b, sym e ∙ sym (ap (λ (x : Entry). x.prefix) is_a))))
    (λ is_b. sym (ap (λ (x : Entry). x.text) is_a) ∙ ap (λ (x : Entry). x.text) is_b) (last b g))
    (last a h)
  where
    last : (x : Entry) → Contains all x → Contains entries x ⊎ (more.entry ≡ x)
    last x is = Contains-push_cases entries more.entry x (subst (λ xs. Contains xs x) more.all is)

-- so in each table that was loaded
pub loaded_one : (bytes : List ℕ) (entries : List Entry) → IsTable bytes entries →
    HaveOneText entries
loaded_one bytes entries (lines, cut, are) = entries_one lines entries are

-- what a table that may be there has for digits
text_some : (table : Option (Bor (List Entry))) (digits : List ℕ) → (text : Option (List ℕ)) × IsTextIn (option_copied table) digits text
text_some None digits = (None, refl)
text_some (Some table) digits = by (has_longest table.now digits)
  where
    by : HasLongest table.now digits → (text : Option (List ℕ)) × IsTextIn (Some table.now) digits text
    by (inl (e, h)) = (Some e.text, (e.prefix, h))
    by (inr none) = (None, none)

-- what a column's tables have for them
spoken_some : (c : Extra) (digits : List ℕ) → (text : List ℕ) × IsSpoken c digits text
spoken_some c digits =
    let own = text_some c.own digits in
    let english = text_some c.table digits in
    (text_told c.locale.now own.0 english.0, (own.0, english.0, own.1, english.1, refl))

-- what holds of some text holds of one, or a text is empty; so with a part
if_some : (b : Bool) (IsSo : List ℕ → Type 0) → (text : List ℕ) × IsSo text → (text : List ℕ) × IsIf b IsSo text
if_some true IsSo some = some
if_some false IsSo some = ([], refl)

part_some : (part : Option (List ℕ)) (IsSo : List ℕ → Type 0) → (text : List ℕ) × IsSo text → (text : List ℕ) × IsPartOr part IsSo text
part_some (Some part) IsSo some = (part, refl)
part_some None IsSo some = some

module _ (rules : Rules) (db : List Metadata) where
  -- a text is read in Argentina as a number, or isn't
  other_some : (digits : Option (List ℕ)) → (m : Option Reading) × IsOther db digits m
  other_some None = (None, refl)
  other_some (Some digits) =
      let w = some_written (chars digits) in
      let r = reading_some db (Some AR) (chars digits) w.0 w.1 in
      (result_ok r.0, (r.0, r.1, refl))

  area_some : (c : Extra) (n : Reading) → (text : List ℕ) × IsAreaIn db c n text
  area_some c n =
      let m = other_some (behind_token n.code.value (text_of n.national)) in
      let t = spoken_some c (digits_of (unwrap_or m.0 n)) in
      (t.0, (m.0, m.1, t.1))

  -- what a column's tables tell
  tables_some : (c : Extra) (told : Told) (type : «Type») (region : Option Id) (n : Reading) → (text : List ℕ) × IsOfTables db c told type region n text
  tables_some c kind.Prefix type region n = found_some (entries_in c.table) (Some (digits_of n))
  tables_some c kind.TimeZones type region n = found_some (entries_in c.table) (zone_digits type n)
  tables_some c (kind.Carrier owner) type region n = if_some _ (IsSpoken c (digits_of n)) (spoken_some c (digits_of n))
  tables_some c kind.Area type region n = if_some _ (IsAreaIn db c n) (area_some c n)
  tables_some c (kind.Part part) type region n = ([], refl)
  tables_some c kind.Doubts type region n = ([], refl)
  tables_some c (kind.Split which shown) type region n = ([], refl)

  by_some : (under : Option (Option Id)) (field : List ℕ) (column : Extra) (number : Option Reading) →
      (text : List ℕ) × IsToldBy rules db under field number column text
  by_some under field column None = ([], refl)
  by_some under field column (Some n) =
      part_some (part_of rules db column.told n) _ (tables_some column column.told (kind_by rules db n) (region_by rules db n) n)

  beside_some : (under : Option (Option Id)) (field : List ℕ) (column : Extra) (number : Option Reading) (split : Option (Which × Shown)) → is_some split ≡ false →
      (text : List ℕ) × IsToldBeside split rules db under field number column text
  beside_some under field column number None is = by_some under field column number
  beside_some under field column number (Some one) is = absurd (true≢false is)

  told_some : (under : Option (Option Id)) (field : List ℕ) (column : Extra) → tells_of_field column.told ≡ false → (number : Option Reading) →
      (text : List ℕ) × IsTold rules db under field number column text
  told_some under field column others number =
      let parts = or_parts (tells_doubts column.told) (is_some (split_in column.told)) others in
      subst (λ b. (text : List ℕ) × IsToldIf b rules db under field number column text) (sym parts.0)
      (beside_some under field column number (split_in column.told) parts.1)

  -- what columns tell of a field
  pub all_told : (under : Option (Option Id)) (field : List ℕ) (number : Option Reading) (columns : List Extra) → ask_fields columns ≡ false →
      (told : Record) × AreTold rules db under field number columns told
  all_told under field number [] others = ([], told_none)
  all_told under field number (c ∷ cs) others =
      let parts = or_parts (tells_of_field c.told) (ask_fields cs) others in
      let t = told_some under field c parts.0 number in
      let ts = all_told under field number cs parts.1 in
      (t.0 ∷ ts.0, told_next c cs t.0 ts.0 t.1 ts.1)
