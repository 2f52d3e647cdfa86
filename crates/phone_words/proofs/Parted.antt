-- The options of two tables, one behind the other.
use Rattle.std.proofs.Common.{◌≡◌, ◌++◌, ◌∷◌, ◌∙◌, [], Bool, true, false, ℕ, List, Option, Some, None}
use Rattle.std.proofs.Common.{ap, append_assoc, cond, refl, sym}
use Rattle.std.specs.List.{find}
use Rattle.std.specs.Option.{option_or}
use Rattle.std.specs.Prelude.{option_map}
use Rattle.phone_words.specs.Help.{row_text, rows_text}
use Rattle.phone_words.specs.Rows.{Entry, joined_in, value_among}

-- the first of both that is so is the first of one, or else of the other
pub find_of_both : (p : Entry → Bool) (xs ys : List Entry) →
    find p (xs ++ ys) ≡ option_or (find p xs) (find p ys)
find_of_both p [] ys = refl
find_of_both p (x ∷ xs) ys = by (p x) (find_of_both p xs ys)
  where
    by : (b : Bool) → find p (xs ++ ys) ≡ option_or (find p xs) (find p ys) →
        cond b (Some x) (find p (xs ++ ys)) ≡ option_or (cond b (Some x) (find p xs)) (find p ys)
    by true h = refl
    by false h = h

or_of_three : {A : Type 0} (a b c : Option A) →
    option_or a (option_or b c) ≡ option_or (option_or a b) c
or_of_three None b c = refl
or_of_three (Some x) b c = refl

-- so it is where an option stands in a word with its value
pub joined_of_both : (words : List (List ℕ)) (word : List ℕ) (xs ys : List Entry) →
    joined_in words (xs ++ ys) word ≡ option_or (joined_in words xs word) (joined_in words ys word)
joined_of_both words word [] ys = refl
joined_of_both words word (x ∷ xs) ys =
    let own : Option (Entry × List ℕ) = option_map (λ v. (x, v)) (value_among words x word) in
    ap (option_or own) (joined_of_both words word xs ys)
    ∙ or_of_three own (joined_in words xs word) (joined_in words ys word)

-- what is told of both
pub told_of_both : (xs ys : List Entry) → rows_text (xs ++ ys) ≡ rows_text xs ++ rows_text ys
told_of_both [] ys = refl
told_of_both (x ∷ xs) ys = ap (λ t. row_text x ++ t) (told_of_both xs ys)
    ∙ sym (append_assoc (row_text x) (rows_text xs) (rows_text ys))
