-- One more word, and one more value.
use Rattle.std.proofs.Common.{◌≡◌, ◌<◌, ◌≤◌, ◌+◌, ◌∷◌, ◌∙◌, [], ℕ, List, Ok, Err, Some}
use Rattle.std.proofs.Common.{None, Option, ap, arith, drop, get_or, length, refl, subst, suc, sym, zero}
use Rattle.std.proofs.lemmas.List.{drop_all}
use Rattle.phone_encodings.specs.declared.encoding.Encoding.{Encoding}
use Rattle.phone_values.specs.declared.rules.Rules.{Rules}
use Rattle.phone_words.specs.Calls.{delimiter_of, encoding_of, level_of, meaning_in, misfit, rules_of}
use Rattle.phone_words.specs.Calls.{skipped_of, with_byte, with_count, with_encoding, with_level}
use Rattle.phone_words.specs.Calls.{with_rules}
use Rattle.phone_words.specs.Parts.{Before, Fault, Kind, Said, and_then, before_next, either}
use Rattle.phone_words.specs.Parts.{kind_after, parts_from, with_kind}
use Rattle.phone_words.specs.Rows.{Lent, texts_of}
use Rattle.phone_words.specs.declared.values.Level.{Level}

-- the words from a place on
pub words_at : (words : List Lent) (n : ℕ) (d : Lent) → n < length words →
    texts_of (drop n words) ≡ (get_or words n d).now ∷ texts_of (drop (n + 1) words)
words_at [] n d h = absurd (omega (arith, h))
words_at (w ∷ ws) zero d h = refl
words_at (w ∷ ws) (suc n) d h =
    let s : suc (n + 1) ≡ suc n + 1 = omega arith in
    subst (λ k. texts_of (drop n ws) ≡ (get_or ws n d).now ∷ texts_of (drop k (w ∷ ws))) s
    (words_at ws n d (omega (arith, h)))

-- no words are left
pub words_end : (all : List (List ℕ)) (words : List Lent) (n : ℕ) (ps : List Said) (b : Before) →
    length words ≤ n → parts_from all (texts_of (drop n words)) ps b ≡ parts_from all [] ps b
words_end all words n ps b h =
    ap (λ l. parts_from all (texts_of l) ps b) (drop_all n words h)

-- a refused word ends the reading
pub word_refused : (words left rest : List (List ℕ)) (w : List ℕ) (ps : List Said) (b : Before)
    (k : Kind) (f : Fault) → left ≡ w ∷ rest → k ≡ kind_after words b w → with_kind ps k ≡ Err f →
    parts_from words left ps b ≡ Err f
word_refused words left rest w ps b k f e i r =
    ap (λ l. parts_from words l ps b) e
    ∙ ap (λ x. and_then x (λ qs. parts_from words rest qs (before_next b w (kind_after words b w))))
    (ap (with_kind ps) (sym i) ∙ r)

-- another one goes on
pub word_read : (words left rest : List (List ℕ)) (w : List ℕ) (ps qs : List Said) (b c : Before)
    (k : Kind) → left ≡ w ∷ rest → k ≡ kind_after words b w → with_kind ps k ≡ Ok qs →
    c ≡ before_next b w k → parts_from words left ps b ≡ parts_from words rest qs c
word_read words left rest w ps qs b c k e i r n =
    ap (λ l. parts_from words l ps b) e
    ∙ ap (λ x. and_then x (λ qs. parts_from words rest qs (before_next b w (kind_after words b w))))
    (ap (with_kind ps) (sym i) ∙ r)
    ∙ ap (λ d. parts_from words rest qs d) (sym (n ∙ ap (before_next b w) i))

-- the values of parts, one after the other
pub misfit_is : (ps : List Said) (f : Fault) → misfit ps ≡ Some f → meaning_in ps ≡ Err f
misfit_is ps f m = ap (λ x. either Err x (and_then (rules_of ps) (with_rules ps))) m

rules_first : (ps : List Said) → misfit ps ≡ None →
    meaning_in ps ≡ and_then (rules_of ps) (with_rules ps)
rules_first ps m = ap (λ x. either Err x (and_then (rules_of ps) (with_rules ps))) m

pub no_rules : (ps : List Said) (f : Fault) → misfit ps ≡ None → rules_of ps ≡ Err f →
    meaning_in ps ≡ Err f
no_rules ps f m r = rules_first ps m ∙ ap (λ x. and_then x (with_rules ps)) r

pub rules_are : (ps : List Said) (rules : Rules) → misfit ps ≡ None → rules_of ps ≡ Ok rules →
    meaning_in ps ≡ with_rules ps rules
rules_are ps rules m r = rules_first ps m ∙ ap (λ x. and_then x (with_rules ps)) r

pub no_count : (ps : List Said) (rules : Rules) (f : Fault) → meaning_in ps ≡ with_rules ps rules →
    skipped_of ps ≡ Err f → meaning_in ps ≡ Err f
no_count ps rules f h s = h ∙ ap (λ x. and_then x (with_count ps rules)) s

pub count_is : (ps : List Said) (rules : Rules) (n : ℕ) → meaning_in ps ≡ with_rules ps rules →
    skipped_of ps ≡ Ok n → meaning_in ps ≡ with_count ps rules n
count_is ps rules n h s = h ∙ ap (λ x. and_then x (with_count ps rules)) s

pub no_byte : (ps : List Said) (rules : Rules) (n : ℕ) (f : Fault) →
    meaning_in ps ≡ with_count ps rules n → delimiter_of ps ≡ Err f → meaning_in ps ≡ Err f
no_byte ps rules n f h d = h ∙ ap (λ x. and_then x (with_byte ps rules n)) d

pub byte_is : (ps : List Said) (rules : Rules) (n b : ℕ) → meaning_in ps ≡ with_count ps rules n →
    delimiter_of ps ≡ Ok b → meaning_in ps ≡ with_byte ps rules n b
byte_is ps rules n b h d = h ∙ ap (λ x. and_then x (with_byte ps rules n)) d

pub no_encoding : (ps : List Said) (rules : Rules) (n b : ℕ) (f : Fault) →
    meaning_in ps ≡ with_byte ps rules n b → encoding_of ps ≡ Err f → meaning_in ps ≡ Err f
no_encoding ps rules n b f h e = h ∙ ap (λ x. and_then x (with_encoding ps rules n b)) e

pub encoding_is : (ps : List Said) (rules : Rules) (n b : ℕ) (e : Option Encoding) →
    meaning_in ps ≡ with_byte ps rules n b → encoding_of ps ≡ Ok e →
    meaning_in ps ≡ with_encoding ps rules n b e
encoding_is ps rules n b e h d = h ∙ ap (λ x. and_then x (with_encoding ps rules n b)) d

pub no_level : (ps : List Said) (rules : Rules) (n b : ℕ) (e : Option Encoding) (f : Fault) →
    meaning_in ps ≡ with_encoding ps rules n b e → level_of ps ≡ Err f → meaning_in ps ≡ Err f
no_level ps rules n b e f h d = h ∙ ap (λ x. and_then x (with_level ps rules n b e)) d

pub level_is : (ps : List Said) (rules : Rules) (n b : ℕ) (e : Option Encoding)
    (l : Option Level) → meaning_in ps ≡ with_encoding ps rules n b e → level_of ps ≡ Ok l →
    meaning_in ps ≡ with_level ps rules n b e l
level_is ps rules n b e l h d = h ∙ ap (λ x. and_then x (with_level ps rules n b e)) d
