-- What cores, computed on their definition, take.
use Rattle.std.proofs.Common.{◌≡◌, ◌⊎◌, inl, ℕ, Bool, true, false, not, List, [], ◌++◌, length, drop, refl}
use Rattle.std.proofs.lemmas.Bool.{not-true}
use Rattle.std.specs.List.{list_any}
use Rattle.ucd_table.proofs.TrieCheck.{all_below, all_below-at}
use Rattle.phone_chars.specs.Cuts.{after_front}
use Rattle.phone_parts.specs.Cores.{IsCore, IsBeforeSecondNumber, begins_second_number, is_start, is_last}
use Rattle.phone_parts.proofs.Cores.{core_same, undivided}

unfoldable pub no_mark : List ℕ → ℕ → Bool
no_mark text k = not (begins_second_number (drop k text))

-- the part before the first mark, where no border up to it has one
pub before_mark : (first after : List ℕ) → all_below (no_mark (first ++ after)) (length first) ≡ true →
    (after ≡ []) ⊎ (begins_second_number after ≡ true) → IsBeforeSecondNumber (first ++ after) first
unfolding no_mark
before_mark first after none ended = record {
  after = after;
  whole = refl;
  ended = ended;
  earliest = λ k less. not-true _ (all_below-at (no_mark (first ++ after)) (length first) k none less);
}

pub no_second : (text : List ℕ) → all_below (no_mark text) (length text) ≡ true → IsBeforeSecondNumber text text
unfolding no_mark
no_second text none = undivided text (λ k less. not-true _ (all_below-at (no_mark text) (length text) k none less))

-- a text has no core where no number can end in what follows its first start
pub no_core : (text : List ℕ) → list_any is_last (after_front (λ c. not (is_start c)) text) ≡ false → (core : List ℕ) → ¬ (IsCore text core)
unfolding no_mark all_below
no_core text none core h =
    h.not_empty (core_same text core [] [] h
    (record { trailing = after_front (λ c. not (is_start c)) text; whole = refl; no_last = none; trimmed = inl refl }) (no_second [] refl))
