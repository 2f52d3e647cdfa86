-- Bytes cut at line feeds: how a cut grows, that there is one, and that there is no other.
use Rattle.std.proofs.Common.{◌≡◌, ◌≢◌, ◌⊎◌, ◌==◌, ℕ, ◌+◌, ◌<◌, ◌≤◌, List, [], ◌∷◌, ◌++◌, length, get_or, take, drop, false, inl, inr, refl, sym, ap, ◌∙◌, append_assoc, take-append-drop, true≢false, arith}
use Rattle.std.proofs.lemmas.Bool.{cases_eq, false_from_ne_true, ne_eqb, or_from}
use Rattle.std.proofs.lemmas.Grind.{common_steps, flat_map-append}
use Rattle.std.proofs.lemmas.List.{drop_more, get_or-take, get_or_default, length-take-le, same_from_push}
use Rattle.std.proofs.lemmas.List.Folds.{list_any_at, list_any_none, list_any-append}
use Rattle.std.proofs.lemmas.List.Splits.{slice_split_at, slice_split_none}
use Rattle.std.specs.List.{All, AllByRecursion, slice_split}
use Rattle.phone_lines.specs.Lines.{AreCut, IsUnbroken, ended}

-- nothing is cut into nothing
pub AreCut-nothing : AreCut [] [] []
AreCut-nothing = record { whole = refl; unbroken = tt; last_unbroken = refl }

-- a byte that is no line feed goes to the last piece
pub AreCut-grown : (bytes : List ℕ) (lines : List (List ℕ)) (last : List ℕ) (x : ℕ) → AreCut bytes lines last → (x ≡ 10 → ⊥) →
    AreCut (bytes ++ x ∷ []) lines (last ++ x ∷ [])
AreCut-grown bytes lines last x cut isnt = grind (arith, common_steps)

-- bytes without a line feed go there, too
pub AreCut-lengthened : (bytes : List ℕ) (lines : List (List ℕ)) (last more : List ℕ) → AreCut bytes lines last → IsUnbroken more →
    AreCut (bytes ++ more) lines (last ++ more)
AreCut-lengthened bytes lines last more cut unbroken = record {
  whole = ap (λ t. t ++ more) cut.whole ∙ append_assoc (ended lines) last more;
  unbroken = cut.unbroken;
  last_unbroken = list_any-append (λ c. c == 10) last more ∙ or_from _ _ cut.last_unbroken unbroken;
}

-- bytes that are no line feed have none
pub unbroken_where : (text : List ℕ) → ((k : ℕ) → k < length text → get_or text k 0 ≢ 10) → IsUnbroken text
unbroken_where text none = list_any_none (λ c. c == 10) text (λ k d h. ne_eqb _ _ (λ is. none k h (sym (get_or_default text k d 0 h) ∙ is)))

pub unbroken_front : (text : List ℕ) (i : ℕ) → i ≤ length text → ((k : ℕ) → k < i → get_or text k 0 ≢ 10) → IsUnbroken (take i text)
unbroken_front text i within none =
    unbroken_where (take i text) (λ k h is. let less : k < i = omega (arith, length-take-le i text within) in none k less (sym (get_or-take i text k 0 less) ∙ is))

-- a text is what stands before a byte, the byte, and what follows it
pub split_around : (text : List ℕ) (i x : ℕ) → i < length text → get_or text i 0 ≡ x → text ≡ take i text ++ x ∷ drop (i + 1) text
split_around text i x inside here =
    sym (take-append-drop i text) ∙ ap (λ l. take i text ++ l) (drop_more text i 0 inside ∙ ap (λ b. b ∷ drop (i + 1) text) here)

unbroken-append : (xs ys : List (List ℕ)) → AllByRecursion IsUnbroken xs → AllByRecursion IsUnbroken ys → AllByRecursion IsUnbroken (xs ++ ys)
unbroken-append [] ys p q = q
unbroken-append (x ∷ xs) ys p q = (p.0, unbroken-append xs ys p.1 q)

-- what comes behind bytes that were cut goes on with their last piece
pub AreCut-then : (bytes more : List ℕ) (lines others : List (List ℕ)) (last end : List ℕ) → AreCut bytes lines last →
    AreCut (last ++ more) others end → AreCut (bytes ++ more) (lines ++ others) end
AreCut-then bytes more lines others last end a b =
    grind (arith, common_steps, unbroken-append lines others a.unbroken b.unbroken, flat_map-append)

-- a line feed ends the last piece
pub AreCut-ended : (bytes : List ℕ) (lines : List (List ℕ)) (last : List ℕ) (x : ℕ) → AreCut bytes lines last → x ≡ 10 →
    AreCut (bytes ++ x ∷ []) (lines ++ last ∷ []) []
AreCut-ended bytes lines last x cut is = AreCut-then bytes (x ∷ []) lines (last ∷ []) last [] cut (grind (arith, common_steps))

-- bytes with their cut
pub record Cut (bytes : List ℕ) : Type 0 where
  pub lines : List (List ℕ)
  pub last : List ℕ
  pub are : AreCut bytes lines last

cut_front : (x : ℕ) (bytes : List ℕ) (lines : List (List ℕ)) (last : List ℕ) → (x ≡ 10) ⊎ (x ≡ 10 → ⊥) → AreCut bytes lines last → Cut (x ∷ bytes)
cut_front x bytes lines last (inl is) cut = record { lines = [] ∷ lines; last = last; are = grind (arith, common_steps) }
cut_front x bytes [] last (inr isnt) cut = record { lines = []; last = x ∷ last; are = grind (arith, common_steps) }
cut_front x bytes (l ∷ ls) last (inr isnt) cut = record { lines = (x ∷ l) ∷ ls; last = last; are = grind (arith, common_steps) }

-- there is one
pub cut_of : (bytes : List ℕ) → Cut bytes
cut_of [] = record { lines = []; last = []; are = AreCut-nothing }
cut_of (x ∷ xs) = let c = cut_of xs in cut_front x xs c.lines c.last (cases_eq x 10) c.are

no_feed : (text : List ℕ) → IsUnbroken text → All (λ c. (c == 10) ≡ false) text
no_feed text none k d h = false_from_ne_true _ (λ is. true≢false (sym (list_any_at (λ c. c == 10) text k d h is) ∙ none))

-- its pieces are those of the kit's `slice_split`
are_split : (bytes : List ℕ) (lines : List (List ℕ)) (last : List ℕ) → AreCut bytes lines last → slice_split (λ c. c == 10) bytes ≡ lines ++ last ∷ []
are_split bytes [] last cut = rw cut.whole (slice_split_none (λ c. c == 10) last (no_feed last cut.last_unbroken))
are_split bytes (l ∷ ls) last cut =
    let rest = are_split (ended ls ++ last) ls last (record { whole = refl; unbroken = cut.unbroken.1; last_unbroken = cut.last_unbroken }) in
    rw (cut.whole, append_assoc (l ++ 10 ∷ []) (ended ls) last, append_assoc l (10 ∷ []) (ended ls ++ last))
    (slice_split_at (λ c. c == 10) l 10 (ended ls ++ last) (no_feed l cut.unbroken.0) refl ∙ ap (λ t. l ∷ t) rest)

-- so there is no other
pub same_cut : {bytes : List ℕ} {lines others : List (List ℕ)} {last end : List ℕ} → AreCut bytes lines last → AreCut bytes others end →
    (lines ≡ others) × (last ≡ end)
same_cut {bytes} {lines} {others} {last} {end} a b =
    same_from_push lines others last end (sym (are_split bytes lines last a) ∙ are_split bytes others end b)
