-- Numbers of a contact book, as the places of its lines tell them.
use Rattle.std.proofs.Common.{◌≡◌, ℕ, List, [], ◌∷◌, ◌++◌, Some, true, length, slice_get, get_or}
use Rattle.std.proofs.Common.{refl, ap, ap₂, ◌∙◌}
use Rattle.std.proofs.lemmas.List.Folds.{list_any_at}
use Rattle.std.proofs.lemmas.Option.{slice_get-get_or, slice_get_within}
use Rattle.phone_book.specs.Books.{Contacts}
use Rattle.phone_book.specs.Firsts.{is_among, is_same_number}
use Rattle.phone_records.specs.declared.loader.Metadata.{Metadata}
use Rattle.phone_values.specs.declared.reading.Reading.{Reading}
use Rattle.phone_values.specs.declared.rules.Rules.{Rules}

-- a book by its parts
pub contacts_are : (old new : Contacts) (entries : List Reading) → new.database ≡ old.database →
    new.rules ≡ old.rules → new.entries ≡ entries → new ≡ record old { entries = entries }
contacts_are old new entries d r e =
    let over : List Metadata → Rules → Contacts = λ database rules. record {
      database = database;
      rules = rules;
      entries = new.entries;
    } in
    ap₂ over d r ∙ ap (λ numbers. record old { entries = numbers }) e

-- the last number of a list stands at its place
pub slice_get-last : (ns : List Reading) (n : Reading) →
    slice_get (ns ++ n ∷ []) (length ns) ≡ Some n
slice_get-last [] n = refl
slice_get-last (m ∷ ns) n = slice_get-last ns n

-- a number of which the same stands at a place is among the others
pub is_among-at : (n e : Reading) (ns : List Reading) (k : ℕ) → slice_get ns k ≡ Some e →
    is_same_number e n ≡ true → is_among n ns ≡ true
is_among-at n e ns k at same =
    let within = slice_get_within ns k e at in
    let got = slice_get-get_or ns k e within in
    let is : get_or ns k e ≡ e = cc in
    list_any_at (λ m. is_same_number m n) ns k e within (ap (λ m. is_same_number m n) is ∙ same)
