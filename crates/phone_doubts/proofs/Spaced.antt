-- Words that are parted by a space, one more at the end.
use Rattle.std.proofs.Common.{◌≡◌, inl, inr, ℕ, ◌+◌, ◌<◌, ◌==◌, Bool, true, false, if◌then◌else◌, List, [], ◌∷◌, ◌++◌, length, take, map, get_or, refl, ap, sym, ◌∙◌, append_assoc, append-nil, arith, eqb-true}
use Rattle.std.proofs.lemmas.Bool.{cases_Bool, cond-false}
use Rattle.std.proofs.lemmas.List.{take_more}
use Rattle.std.proofs.lemmas.List.Elements.{filter-append}
use Rattle.std.specs.List.{filter}
use Rattle.phone_doubts.specs.Doubts.{spaced, word_of}
use Rattle.phone_doubts.specs.Words.{behind}
use Rattle.phone_doubts.specs.declared.doubt.Doubt.{Doubt}
use Rattle.phone_doubts.specs.declared.doubt.Doubt.TheVariants as doubt

-- more than none
pos : (n : ℕ) → 0 < n → (n == 0) ≡ false
pos n h = elim (cases_Bool (n == 0)) [
  | inl e ↦ absurd (omega (arith, eqb-true n 0 e, h))
  | inr e ↦ e
]

-- a doubt has some word
some_word : (d : Doubt) (t : List ℕ) → (length (word_of d ++ t) == 0) ≡ false
some_word doubt.Float t = pos _ (omega arith)
some_word doubt.NoPlus t = pos _ (omega arith)
some_word doubt.ZeroInBrackets t = pos _ (omega arith)
some_word doubt.Letters t = pos _ (omega arith)
some_word doubt.TwoNumbers t = pos _ (omega arith)
some_word doubt.Date t = pos _ (omega arith)
some_word doubt.ZeroLost t = pos _ (omega arith)
some_word doubt.OtherRegion t = pos _ (omega arith)

-- so behind it, and what may follow it, stands a space
behind_some : (d : Doubt) (t word : List ℕ) → behind (word_of d ++ t) word ≡ (word_of d ++ t) ++ 32 ∷ word
behind_some d t word = cond-false _ _ _ (some_word d t)

-- the words of doubts
abbrev pub words : List Doubt → List ℕ
words ds = spaced (map word_of ds)

-- one more at the end
pub words-more : (ds : List Doubt) (d : Doubt) → words (ds ++ d ∷ []) ≡ behind (words ds) (word_of d)
words-more [] d = refl
words-more (a ∷ []) d =
    sym (ap (λ t. behind t (word_of d)) (sym (append-nil (word_of a))) ∙ behind_some a [] (word_of d)
    ∙ ap (λ t. t ++ 32 ∷ word_of d) (append-nil (word_of a)))
words-more (a ∷ b ∷ ds) d =
    ap (λ t. word_of a ++ 32 ∷ t) (words-more (b ∷ ds) d ∙ later b ds)
    ∙ sym (behind_some a (32 ∷ words (b ∷ ds)) (word_of d) ∙ append_assoc (word_of a) (32 ∷ words (b ∷ ds)) (32 ∷ word_of d))
  where
    later : (b : Doubt) (ds : List Doubt) → behind (words (b ∷ ds)) (word_of d) ≡ words (b ∷ ds) ++ 32 ∷ word_of d
    later b [] = ap (λ t. behind t (word_of d)) (sym (append-nil (word_of b))) ∙ behind_some b [] (word_of d)
        ∙ ap (λ t. t ++ 32 ∷ word_of d) (append-nil (word_of b))
    later b (c ∷ cs) = behind_some b (32 ∷ words (c ∷ cs)) (word_of d)

-- those of the first doubts that hold
abbrev pub first_words : (Doubt → Bool) → ℕ → List Doubt → List ℕ
first_words holds n all = words (filter holds (take n all))

one_more : (holds : Doubt → Bool) (n : ℕ) (all : List Doubt) → n < length all →
    filter holds (take (n + 1) all) ≡ filter holds (take n all) ++ filter holds (get_or all n doubt.Float ∷ [])
one_more holds n all inside = ap (filter holds) (take_more all n doubt.Float inside) ∙ filter-append holds (take n all) (get_or all n doubt.Float ∷ [])

with_one : (holds : Doubt → Bool) (ds : List Doubt) (d : Doubt) (b : Bool) → holds d ≡ b →
    words (ds ++ filter holds (d ∷ [])) ≡ (if b then behind (words ds) (word_of d) else words ds)
with_one holds ds d true e = ap (λ (b : Bool). words (ds ++ (if b then d ∷ [] else []))) e ∙ words-more ds d
with_one holds ds d false e = ap (λ (b : Bool). words (ds ++ (if b then d ∷ [] else []))) e ∙ ap words (append-nil ds)

-- one doubt more
pub first_words-more : (holds : Doubt → Bool) (n : ℕ) (all : List Doubt) → n < length all →
    first_words holds (n + 1) all ≡ (if holds (get_or all n doubt.Float) then behind (first_words holds n all) (word_of (get_or all n doubt.Float))
    else first_words holds n all)
first_words-more holds n all inside =
    let d = get_or all n doubt.Float in ap words (one_more holds n all inside) ∙ with_one holds (filter holds (take n all)) d (holds d) refl
