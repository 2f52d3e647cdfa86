-- What columns tell, put to the members of an object one after the other.
use Rattle.std.proofs.Common.{◌≡◌, ◌≤◌, ◌||◌, ℕ, List, [], ◌∷◌, Option, Bool, false, Ordering, Less, Equal, Greater, ap, ap₂, refl, ◌∙◌, arith}
use Rattle.std.specs.Ordering.{nat_cmp, match_ordering}
use Rattle.std.specs.Cmp.Lexicographic.{slice_cmp}
use Rattle.std.proofs.lemmas.Bool.{or_parts}
use Rattle.serde_json.specs.Data.{Data, Members, member, no_members, members_depth, put, string}
use Rattle.serde_json.specs.Written.{has_float, members_have_float}
use Rattle.phone_values.specs.declared.country.Id.{Id}
use Rattle.phone_values.specs.declared.reading.Reading.{Reading}
use Rattle.phone_values.specs.declared.rules.Rules.{Rules}
use Rattle.phone_csv.specs.Formats.{Record}
use Rattle.phone_records.specs.declared.loader.Metadata.{Metadata}
use Rattle.phone_answers.specs.Extras.{AreTold, IsTold}
use Rattle.phone_answers.specs.Extras.AreTold.{next}
use Rattle.phone_answers.specs.Objects.{with_told}
use Rattle.phone_answers.specs.declared.extra.Extra.{Extra}

module _ (rules : Rules) (db : List Metadata) (under : Option (Option Id)) (field : List ℕ) (number : Option Reading) (extra : List Extra) (first : Members) where
  -- what the columns that are left tell completes what all tell
  abbrev pub CompletesMembers : List Extra → Members → Type 0
  CompletesMembers left ms = (rest : Record) → AreTold rules db under field number left rest →
      (all : Record) × AreTold rules db under field number extra all × (with_told left rest ms ≡ with_told extra all first)

  -- one more column
  pub one_more_member : (column : Extra) (left : List Extra) (ms more : Members) (text : List ℕ) → CompletesMembers (column ∷ left) ms →
      IsTold rules db under field number column text → more ≡ put column.heading.now (string text) ms → CompletesMembers left more
  one_more_member column left ms more text completes told is rest are =
      let x = completes (text ∷ rest) (next column left text rest told are) in
      (x.0, x.1, ap (with_told left rest) is ∙ x.2)

-- members without a float have none with a text more
chosen_plain : (o : Ordering) (a b c : Members) → members_have_float a ≡ false → members_have_float b ≡ false → members_have_float c ≡ false →
    members_have_float (match_ordering o a b c) ≡ false
chosen_plain Less a b c h g k = h
chosen_plain Equal a b c h g k = g
chosen_plain Greater a b c h g k = k

put_plain : (key text : List ℕ) (ms : Members) → members_have_float ms ≡ false → members_have_float (put key (string text) ms) ≡ false
put_plain key text no_members h = refl
put_plain key text (member l e ms) h =
    let p = or_parts (has_float e) (members_have_float ms) h in
    chosen_plain (slice_cmp nat_cmp key l) (member key (string text) (member l e ms)) (member l (string text) ms) (member l e (put key (string text) ms))
    h p.1 (ap₂ (λ x y. x || y) p.0 (put_plain key text ms p.1))

pub told_plain : (columns : List Extra) (told : Record) (ms : Members) → members_have_float ms ≡ false → members_have_float (with_told columns told ms) ≡ false
told_plain [] told ms h = h
told_plain (c ∷ cs) [] ms h = h
told_plain (c ∷ cs) (t ∷ ts) ms h = told_plain cs ts (put c.heading.now (string t) ms) (put_plain c.heading.now t ms h)

-- nor do they nest deeper
chosen_flat : (o : Ordering) (a b c : Members) (n : ℕ) → members_depth a ≤ n → members_depth b ≤ n → members_depth c ≤ n →
    members_depth (match_ordering o a b c) ≤ n
chosen_flat Less a b c n h g k = h
chosen_flat Equal a b c n h g k = g
chosen_flat Greater a b c n h g k = k

put_flat : (key text : List ℕ) (ms : Members) (n : ℕ) → members_depth ms ≤ n → members_depth (put key (string text) ms) ≤ n
put_flat key text no_members n h = omega arith
put_flat key text (member l e ms) n h =
    chosen_flat (slice_cmp nat_cmp key l) (member key (string text) (member l e ms)) (member l (string text) ms) (member l e (put key (string text) ms)) n
    (omega (arith, h)) (omega (arith, h)) (omega (arith, h, put_flat key text ms n (omega (arith, h))))

pub told_flat : (columns : List Extra) (told : Record) (ms : Members) (n : ℕ) → members_depth ms ≤ n → members_depth (with_told columns told ms) ≤ n
told_flat [] told ms n h = h
told_flat (c ∷ cs) [] ms n h = h
told_flat (c ∷ cs) (t ∷ ts) ms n h =
    told_flat cs ts (put c.heading.now (string t) ms) n (put_flat c.heading.now t ms n h)
