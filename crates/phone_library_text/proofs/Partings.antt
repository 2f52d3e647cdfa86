-- Where a text is parted, told from its first character on.
use Rattle.std.proofs.Common.{◌≡◌, ℕ, Bool, true, false, ◌==◌, List, [], ◌∷◌, ◌++◌, length, drop, Option, Some, None, option_map, refl, ap, sym, ◌∙◌, true≢false, append_assoc, append-nil, eqb-true, eq-eqb}
use Rattle.std.proofs.Math.Seq.{drop-append_seam}
use Rattle.std.proofs.lemmas.Bool.{cond-false, cond-true, or_parts}
use Rattle.std.specs.List.{list_any}
use Rattle.std.specs.Option.{option_map_or}
use Rattle.phone_parts.specs.Texts.{is_front}
use Rattle.phone_parts.proofs.Prefixes.{is_front-append, is_front-drop, is_front-no}
use Rattle.phone_library_text.specs.Places.{parted}

-- the parts, behind one character
abbrev pub shifted : ℕ → Option (List ℕ × List ℕ) → Option (List ℕ × List ℕ)
shifted c o = option_map (λ (p : List ℕ × List ℕ). (c ∷ p.0, p.1)) o

-- the parts, behind what was passed before them
abbrev pub behind : List ℕ → Option (List ℕ × List ℕ) → Option (List ℕ × List ℕ)
behind passed o = option_map (λ (p : List ℕ × List ℕ). (passed ++ p.0, p.1)) o

-- behind nothing they are the same
pub behind-nil : (o : Option (List ℕ × List ℕ)) → behind [] o ≡ o
behind-nil None = refl
behind-nil (Some p) = refl

-- behind one more character
pub behind-more : (passed : List ℕ) (c : ℕ) (o : Option (List ℕ × List ℕ)) →
    behind passed (shifted c o) ≡ behind (passed ++ c ∷ []) o
behind-more passed c None = refl
behind-more passed c (Some p) = ap (λ t. Some (t, p.1)) (sym (append_assoc passed (c ∷ []) p.0))

pub not_none : (p : List ℕ × List ℕ) → ¬ (Some p ≡ None)
not_none p e = cc

-- equal parts have equal fronts and equal ends
abbrev pub Parting : Type 0
Parting = List ℕ × List ℕ

pub fronts_of : (a b x y : List ℕ) (e : Path (Option Parting) (Some (a, b)) (Some (x, y))) → a ≡ x
fronts_of a b x y e = ap (λ (o : Option Parting). option_map_or (λ (p : Parting). p.0) o []) e

pub ends_of : (a b x y : List ℕ) (e : Path (Option Parting) (Some (a, b)) (Some (x, y))) → b ≡ y
ends_of a b x y e = ap (λ (o : Option Parting). option_map_or (λ (p : Parting). p.1) o []) e

-- a word that stands at the front parts the text there
pub parted-front : (word : List ℕ) (c : ℕ) (cs rest : List ℕ) → c ∷ cs ≡ word ++ rest → parted word (c ∷ cs) ≡ Some ([], rest)
parted-front word c cs rest e =
    cond-true _ _ _ (ap (is_front word) e ∙ is_front-append word rest) ∙ ap (λ t. Some ([], t)) (ap (drop (length word)) e ∙ drop-append_seam word rest)

-- where it doesn't stand there, the place is later
pub parted-later : (word : List ℕ) (c : ℕ) (cs : List ℕ) → ((rest : List ℕ) → ¬ (c ∷ cs ≡ word ++ rest)) →
    parted word (c ∷ cs) ≡ shifted c (parted word cs)
parted-later word c cs none = cond-false _ _ _ (is_front-no word (c ∷ cs) none)

-- a word isn't at the front of a text that begins with another character
pub not_front : (w : ℕ) (word : List ℕ) (c : ℕ) (cs : List ℕ) → (c == w) ≡ false → is_front (w ∷ word) (c ∷ cs) ≡ false
not_front w word c cs other = is_front-no (w ∷ word) (c ∷ cs) (λ rest e. true≢false (sym (same_head rest e) ∙ other))
  where
    same_head : (rest : List ℕ) → c ∷ cs ≡ (w ∷ word) ++ rest → (c == w) ≡ true
    same_head rest e = let same : c ≡ w = cc in eq-eqb c w same

-- a text without a word's first character passes before the first place
pub parted-passed : (w : ℕ) (word before rest : List ℕ) → list_any (λ c. c == w) before ≡ false →
    parted (w ∷ word) (before ++ rest) ≡ behind before (parted (w ∷ word) rest)
parted-passed w word [] rest none = sym (behind-nil (parted (w ∷ word) rest))
parted-passed w word (c ∷ before) rest none =
    let parts = or_parts (c == w) (list_any (λ c. c == w) before) none in
    cond-false _ _ _ (not_front w word c (before ++ rest) parts.0)
    ∙ ap (shifted c) (parted-passed w word before rest parts.1)
    ∙ one_more (parted (w ∷ word) rest)
  where
    one_more : (o : Option (List ℕ × List ℕ)) → shifted c (behind before o) ≡ behind (c ∷ before) o
    one_more None = refl
    one_more (Some p) = refl

-- so in such a text the word has no place
pub parted-none : (w : ℕ) (word t : List ℕ) → list_any (λ c. c == w) t ≡ false → parted (w ∷ word) t ≡ None
parted-none w word t none = ap (parted (w ∷ word)) (sym (append-nil t)) ∙ parted-passed w word t [] none

-- and a word of one character has its first place behind it
pub parted-one : (w : ℕ) (before rest : List ℕ) → list_any (λ c. c == w) before ≡ false →
    parted (w ∷ []) (before ++ w ∷ rest) ≡ Some (before, rest)
parted-one w before rest none =
    parted-passed w [] before (w ∷ rest) none ∙ ap (behind before) (parted-front (w ∷ []) w rest rest refl) ∙ ap (λ t. Some (t, rest)) (append-nil before)

-- what the parts of a text are
pub record AreParts (word t front after : List ℕ) : Type 0 where
  pub whole : t ≡ front ++ (word ++ after)

pub parts_of_parted : (word t front after : List ℕ) → parted word t ≡ Some (front, after) → AreParts word t front after
parts_of_parted word [] front after e = absurd (cc)
parts_of_parted word (c ∷ cs) front after e = at (is_front word (c ∷ cs)) refl (parts_of_parted word cs)
  where
    Told : Type 0
    Told = (x y : List ℕ) → parted word cs ≡ Some (x, y) → AreParts word cs x y

    later : Told → (o : Option (List ℕ × List ℕ)) → parted word cs ≡ o → shifted c o ≡ Some (front, after) →
        AreParts word (c ∷ cs) front after
    later told None f g = absurd (cc)
    later told (Some (x, y)) f g =
        let fronts : c ∷ x ≡ front = fronts_of (c ∷ x) y front after g in
        let afters : y ≡ after = ends_of (c ∷ x) y front after g in
        record { whole = ap (λ t. c ∷ t) (told x y f).whole ∙ rw (← fronts, ← afters) }

    at : (b : Bool) → is_front word (c ∷ cs) ≡ b → Told → AreParts word (c ∷ cs) front after
    at true f told =
        let fronts : [] ≡ front = fronts_of [] (drop (length word) (c ∷ cs)) front after (sym (cond-true _ _ _ f) ∙ e) in
        let afters : drop (length word) (c ∷ cs) ≡ after = ends_of [] (drop (length word) (c ∷ cs)) front after (sym (cond-true _ _ _ f) ∙ e) in
        record { whole = is_front-drop word (c ∷ cs) f ∙ rw (← fronts, ← afters) }
    at false f told = later told (parted word cs) refl (sym (cond-false _ _ _ f) ∙ e)

-- what stands before the first place of a character has none of it
pub before_none : (w : ℕ) (t front after : List ℕ) → parted (w ∷ []) t ≡ Some (front, after) → list_any (λ c. c == w) front ≡ false
before_none w [] front after e = absurd (cc)
before_none w (c ∷ cs) front after e = at (c == w) refl (before_none w cs)
  where
    Told : Type 0
    Told = (x y : List ℕ) → parted (w ∷ []) cs ≡ Some (x, y) → list_any (λ c. c == w) x ≡ false

    later : Told → (o : Option (List ℕ × List ℕ)) → parted (w ∷ []) cs ≡ o → (c == w) ≡ false → shifted c o ≡ Some (front, after) →
        list_any (λ c. c == w) front ≡ false
    later told None f other g = absurd (cc)
    later told (Some (x, y)) f other g =
        let fronts : c ∷ x ≡ front = fronts_of (c ∷ x) y front after g in
        ap (list_any (λ c. c == w)) (sym fronts) ∙ rw other (told x y f)

    at : (b : Bool) → (c == w) ≡ b → Told → list_any (λ c. c == w) front ≡ false
    at true f told =
        let same : c ≡ w = eqb-true c w f in
        let fronts : [] ≡ front = fronts_of [] cs front after (sym (parted-front (w ∷ []) c cs cs (ap (λ x. x ∷ cs) same)) ∙ e) in
        ap (list_any (λ c. c == w)) (sym fronts)
    at false f told = later told (parted (w ∷ []) cs) refl f (sym (cond-false _ _ _ (not_front w [] c cs f)) ∙ e)

pub none_of_parted : (w : ℕ) (t : List ℕ) → parted (w ∷ []) t ≡ None → list_any (λ c. c == w) t ≡ false
none_of_parted w [] e = refl
none_of_parted w (c ∷ cs) e = at (c == w) refl (none_of_parted w cs)
  where
    Told : Type 0
    Told = parted (w ∷ []) cs ≡ None → list_any (λ c. c == w) cs ≡ false

    later : Told → (o : Option (List ℕ × List ℕ)) → parted (w ∷ []) cs ≡ o → (c == w) ≡ false → shifted c o ≡ None →
        list_any (λ c. c == w) (c ∷ cs) ≡ false
    later told None f other g = rw other (told f)
    later told (Some p) f other g = absurd (cc)

    at : (b : Bool) → (c == w) ≡ b → Told → list_any (λ c. c == w) (c ∷ cs) ≡ false
    at true f told =
        let same : c ≡ w = eqb-true c w f in
        absurd (not_none ([], cs) (sym (parted-front (w ∷ []) c cs cs (ap (λ x. x ∷ cs) same)) ∙ e))
    at false f told = later told (parted (w ∷ []) cs) refl f (sym (cond-false _ _ _ (not_front w [] c cs f)) ∙ e)
