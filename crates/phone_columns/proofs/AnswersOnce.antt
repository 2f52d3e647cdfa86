-- A row has one answer.
use Rattle.std.proofs.Common.{◌≡◌, ℕ, List, [], ◌∷◌, Option, None, Some, Result, Ok, Err, MatchOption, chars, refl, sym, ap, ◌∙◌}
use Rattle.phone_values.specs.Refusals.{refusal_number}
use Rattle.phone_values.specs.declared.country.Id.{Id}
use Rattle.phone_values.specs.declared.error.ParseError.{ParseError}
use Rattle.phone_values.specs.declared.reading.Reading.{Reading}
use Rattle.phone_values.specs.declared.rules.Rules.{Rules}
use Rattle.phone_records.specs.declared.loader.Metadata.{Metadata}
use Rattle.phone_engine.proofs.OneReading.{reading_same}
use Rattle.phone_c_base.specs.Hints.{hint_of}
use Rattle.phone_columns.specs.Rows.{AreAnswers, IsAnswer, IsReadAs, Row}
use Rattle.phone_columns.specs.Rows.IsReadAs.{not_utf8, number, refused}
use Rattle.phone_columns.specs.declared.answers.Answer.{Answer}
use Rattle.phone_columns.specs.declared.answers.Answer.TheVariants.{Number, Refused}

-- of one reading one answer is made
abbrev made_of : Result Reading ParseError → Answer
made_of (Ok n) = Number n
made_of (Err e) = Refused (refusal_number e)

read_once : (rules : Rules) (db : List Metadata) (hint : Option Id) (text : List ℕ) (a b : Answer) →
    IsReadAs rules db hint text a → IsReadAs rules db hint text b → a ≡ b
read_once rules db hint text _ _ (not_utf8 isnt) (not_utf8 isnt') = refl
read_once rules db hint text _ _ (not_utf8 isnt) (refused e told r) = absurd (isnt told)
read_once rules db hint text _ _ (not_utf8 isnt) (number n told r) = absurd (isnt told)
read_once rules db hint text _ _ (refused e told r) (not_utf8 isnt) = absurd (isnt told)
read_once rules db hint text _ _ (number n told r) (not_utf8 isnt) = absurd (isnt told)
read_once rules db hint text _ _ (refused e told r) (refused e' told' r') =
    ap made_of (reading_same rules db hint (chars text) (Err e) (Err e') r r')
read_once rules db hint text _ _ (refused e told r) (number n told' r') =
    ap made_of (reading_same rules db hint (chars text) (Err e) (Ok n) r r')
read_once rules db hint text _ _ (number n told r) (refused e told' r') =
    ap made_of (reading_same rules db hint (chars text) (Ok n) (Err e) r r')
read_once rules db hint text _ _ (number n told r) (number n' told' r') =
    ap made_of (reading_same rules db hint (chars text) (Ok n) (Ok n') r r')

under_once : (rules : Rules) (db : List Metadata) (h : Option (Option Id)) (text : List ℕ) (a b : Answer) (refusal : Answer) →
    MatchOption h (a ≡ refusal) (λ hint. IsReadAs rules db hint text a) →
    MatchOption h (b ≡ refusal) (λ hint. IsReadAs rules db hint text b) → a ≡ b
under_once rules db None text a b refusal p q = p ∙ sym q
under_once rules db (Some hint) text a b refusal p q = read_once rules db hint text a b p q

pub answer_once : (rules : Rules) (db : List Metadata) (row : Row) (a b : Answer) → IsAnswer rules db row a → IsAnswer rules db row b → a ≡ b
answer_once rules db (None, hint) a b p q = p ∙ sym q
answer_once rules db (Some text, hint) a b p q = under_once rules db (hint_of hint) text a b _ p q

pub answers_once : (rules : Rules) (db : List Metadata) (rows : List Row) (xs ys : List Answer) → AreAnswers rules db rows xs →
    AreAnswers rules db rows ys → xs ≡ ys
answers_once rules db [] [] [] p q = refl
answers_once rules db [] [] (y ∷ ys) p q = absurd q
answers_once rules db [] (x ∷ xs) ys p q = absurd p
answers_once rules db (r ∷ rows) [] ys p q = absurd p
answers_once rules db (r ∷ rows) (x ∷ xs) [] p q = absurd q
answers_once rules db (r ∷ rows) (x ∷ xs) (y ∷ ys) p q =
    ap (λ (a : Answer). a ∷ xs) (answer_once rules db r x y p.0 q.0) ∙ ap (λ (zs : List Answer). y ∷ zs) (answers_once rules db rows xs ys p.1 q.1)
