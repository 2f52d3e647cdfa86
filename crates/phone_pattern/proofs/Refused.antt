-- One text is refused of a list of texts, where those before it are patterns.
use Rattle.std.proofs.Common.{◌≡◌, ◌<◌, ℕ, zero, suc, List, [], ◌∷◌, ◌++◌, append_assoc, ap, arith, drop, get_or, length, subst, sym, take, ◌∙◌}
use Rattle.std.specs.List.{AllByRecursion, flat_map}
use Rattle.phone_pattern.specs.First.{IsPattern}
use Rattle.phone_pattern.specs.Refusals.{IsPatternRefusal, IsRefusedIn}
use Rattle.phone_base.specs.declared.error.LoadMetadata.{LoadMetadata}
use Rattle.phone_base.specs.declared.error.LoadMetadata.TheVariants as error

abbrev pub Texts : Type 0
Texts = List (List ℕ)

abbrev pub ArePatterns : Texts → Type 0
ArePatterns texts = AllByRecursion IsPattern texts

-- of each of these the patterns are patterns
abbrev pub HavePatterns : {X : Type 0} → (X → Texts) → List X → Type 0
HavePatterns f xs = AllByRecursion (λ x. ArePatterns (f x)) xs

pub both-patterns : (xs ys : Texts) → ArePatterns xs → ArePatterns ys → ArePatterns (xs ++ ys)
both-patterns [] ys h k = k
both-patterns (x ∷ xs) ys h k = (h.0, both-patterns xs ys h.1 k)

pub flat-patterns : {X : Type 0} (f : X → Texts) (xs : List X) → HavePatterns f xs → ArePatterns (flat_map f xs)
flat-patterns f [] h = tt
flat-patterns f (x ∷ xs) h = both-patterns (f x) (flat_map f xs) h.0 (flat-patterns f xs h.1)

-- one more at the end
pub have-push : {X : Type 0} (f : X → Texts) (xs : List X) (x : X) → HavePatterns f xs → ArePatterns (f x) → HavePatterns f (xs ++ x ∷ [])
have-push f [] x h k = (k, tt)
have-push f (y ∷ ys) x h k = (h.0, have-push f ys x h.1 k)

by : (ps qs : Texts) (e : LoadMetadata) → ((p : List ℕ) → IsRefusedIn ps p → IsRefusedIn qs p) → IsPatternRefusal ps e → IsPatternRefusal qs e
by ps qs (error.Regex text) f h = f _ h
by ps qs error.Memory f h = tt
by ps qs (error.Metadata x) f h = absurd h
by ps qs error.Json f h = absurd h
by ps qs (error.Kind x y) f h = absurd h
by ps qs error.Io f h = absurd h

-- more texts after these
pub refused-left : (ps after : Texts) (e : LoadMetadata) → IsPatternRefusal ps e → IsPatternRefusal (ps ++ after) e
refused-left ps after e = by ps (ps ++ after) e (λ p h. (h.0, h.1 ++ after, ap (λ xs. xs ++ after) h.2 ∙ append_assoc h.0 (p ∷ h.1) after, h.3))

-- more patterns before these
pub refused-right : (before ps : Texts) (e : LoadMetadata) → ArePatterns before → IsPatternRefusal ps e → IsPatternRefusal (before ++ ps) e
refused-right before ps e are = by ps (before ++ ps) e (λ p h. (
  before ++ h.0,
  h.1,
  ap (λ xs. before ++ xs) h.2 ∙ sym (append_assoc before h.0 (p ∷ h.1)),
  both-patterns before h.0 are h.3,
))

-- one text is refused of a list, where the texts before it are patterns
pub refused_here : (before after all : Texts) (t : List ℕ) (e : LoadMetadata) → before ++ t ∷ after ≡ all → ArePatterns before → IsPatternRefusal (t ∷ []) e → IsPatternRefusal all e
refused_here before after all t e is are h = subst (λ xs. IsPatternRefusal xs e) is (refused-right before (t ∷ after) e are (refused-left (t ∷ []) after e h))

-- a list is parted at each of its items
parted_at : {X : Type 0} (xs : List X) (k : ℕ) (x : X) → k < length xs → x ≡ get_or xs k x → take k xs ++ x ∷ drop (suc k) xs ≡ xs
parted_at [] k x h e = absurd (omega (arith, h))
parted_at (y ∷ ys) zero x h e = ap (λ z. z ∷ ys) e
parted_at (y ∷ ys) (suc k) x h e = ap (λ zs. y ∷ zs) (parted_at ys k x (omega (arith, h)) e)

-- the text at a place is refused, where those before it are patterns
pub refused_at : (texts : Texts) (k : ℕ) (t : List ℕ) (e : LoadMetadata) → k < length texts → t ≡ get_or texts k t → ArePatterns (take k texts) → IsPatternRefusal (t ∷ []) e → IsPatternRefusal texts e
refused_at texts k t e inside is are h = refused_here (take k texts) (drop (suc k) texts) texts t e (parted_at texts k t inside is) are h
