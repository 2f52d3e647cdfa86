-- The text that a number is read from, told by the cuts of its text.
use Rattle.std.proofs.Common.{◌≡◌, ℕ, Bool, true, false, ◌==◌, cond, List, [], ◌∷◌, ◌++◌, codes, Option, Some, None, MatchOption, Bor, chars, refl, ap, sym, subst, ◌∙◌, true≢false}
use Rattle.std.proofs.lemmas.Bool.{or_parts}
use Rattle.std.proofs.lemmas.List.Folds.{list_any-append}
use Rattle.std.specs.List.{list_any}
use Rattle.std.specs.Option.{is_some, option_map_or}
use Rattle.phone_parts.specs.Cores.{IsCore}
use Rattle.phone_parts.specs.Texts.{begins}
use Rattle.phone_library_text.specs.NumberTexts
use Rattle.phone_library_text.specs.NumberTexts.{HasNumberText, before_place, chars_of, context_in, context_name, global_part, local_part, without_subaddress}
use Rattle.phone_library_text.specs.Places.{before_first, parted}
use Rattle.phone_library_text.proofs.Partings.{Parting, before_none, behind, none_of_parted, parted-none, parted-passed}

-- the front and the end of what has none of a set have none
front_none : (p : ℕ → Bool) (t a b : List ℕ) → t ≡ a ++ b → list_any p t ≡ false → list_any p a ≡ false
front_none p t a b e none = (or_parts (list_any p a) (list_any p b) (sym (list_any-append p a b) ∙ ap (list_any p) (sym e) ∙ none)).0

end_none : (p : ℕ → Bool) (t a b : List ℕ) → t ≡ a ++ b → list_any p t ≡ false → list_any p b ≡ false
end_none p t a b e none = (or_parts (list_any p a) (list_any p b) (sym (list_any-append p a b) ∙ ap (list_any p) (sym e) ∙ none)).1

-- so has a core
core_none : (p : ℕ → Bool) (t core : List ℕ) → IsCore t core → list_any p t ≡ false → list_any p core ≡ false
core_none p t core h none =
    front_none p h.kept core h.first.after h.first.whole
    (front_none p h.from h.kept h.trimmed.trailing h.trimmed.whole (end_none p t h.before h.from h.whole none))

-- a text without a semicolon names no context, and has no subaddress
pub no_context : (t : List ℕ) → list_any (λ c. c == 59) t ≡ false → parted context_name t ≡ None
no_context t none = parted-none 59 (codes "phone-context=") t none

pub no_subaddress : (t : List ℕ) → list_any (λ c. c == 59) t ≡ false → without_subaddress t ≡ t
no_subaddress t none = ap (λ p. before_place p t) (parted-none 59 (codes "isub=") t none)

-- its number's text is its core
pub plain_number_text : (t : List ℕ) (o : Option (Bor (List ℕ))) → MatchOption o ((core : List ℕ) → ¬ (IsCore t core)) (λ core. IsCore t (chars core.now)) →
    list_any (λ c. c == 59) t ≡ false → HasNumberText t (chars_of o)
plain_number_text t None told none = NumberTexts.nothing (no_context t none) told
plain_number_text t (Some x) told none =
    subst (λ n. HasNumberText t (Some n)) (no_subaddress (chars x.now) (core_none (λ c. c == 59) t (chars x.now) told none))
    (NumberTexts.free (chars x.now) (no_context t none) told)

-- a context has no semicolon
pub context_plain : (after : List ℕ) → list_any (λ c. c == 59) (context_in after) ≡ false
context_plain after = at (parted (59 ∷ []) after) refl
  where
    at : (o : Option Parting) → parted (59 ∷ []) after ≡ o → list_any (λ c. c == 59) (context_in after) ≡ false
    at None e = ap (λ (p : Option Parting). list_any (λ c. c == 59) (option_map_or (λ (q : Parting). q.0) p after)) e ∙ none_of_parted 59 after e
    at (Some (x, y)) e = ap (λ (p : Option Parting). list_any (λ c. c == 59) (option_map_or (λ (q : Parting). q.0) p after)) e ∙ before_none 59 after x y e

-- behind a global context a subaddress is cut off the local number
pub joined_text : (context t : List ℕ) → begins (λ c. c == 43) context ≡ true → list_any (λ c. c == 59) context ≡ false →
    without_subaddress (global_part context ++ t) ≡ context ++ before_first (codes ";isub=") t
joined_text [] t first none = absurd (true≢false (sym first))
joined_text (x ∷ context) t first none =
    ap (λ g. without_subaddress (g ++ t)) global
    ∙ ap (λ p. before_place p (x ∷ (context ++ t))) (parted-passed 59 (codes "isub=") (x ∷ context) t none)
    ∙ at (parted (codes ";isub=") t) refl
  where
    global : global_part (x ∷ context) ≡ x ∷ context
    global = ap (λ b. cond b (x ∷ context) []) first

    told : (o : Option Parting) → before_place (behind (x ∷ context) o) (x ∷ (context ++ t)) ≡ (x ∷ context) ++ option_map_or (λ (q : Parting). q.0) o t
    told None = refl
    told (Some p) = refl

    at : (o : Option Parting) → parted (codes ";isub=") t ≡ o →
        before_place (behind (x ∷ context) (parted (codes ";isub=") t)) (x ∷ (context ++ t)) ≡ (x ∷ context) ++ before_first (codes ";isub=") t
    at o e = ap (λ p. before_place (behind (x ∷ context) p) (x ∷ (context ++ t))) e ∙ told o
        ∙ ap (λ (p : Option Parting). (x ∷ context) ++ option_map_or (λ (q : Parting). q.0) p t) (sym e)

-- a domain's name doesn't count
pub local_text : (context t : List ℕ) → begins (λ c. c == 43) context ≡ false → without_subaddress (global_part context ++ t) ≡ without_subaddress t
local_text context t none = ap (λ g. without_subaddress (g ++ t)) (ap (λ b. cond b context []) none)

-- a place at the start doesn't count
pub before_some : (front after t : List ℕ) → ¬ (front ≡ []) → before_place (Some (front, after)) t ≡ front
before_some [] after t some = absurd (some refl)
before_some (c ∷ cs) after t some = refl

pub before_start : (front after t : List ℕ) → front ≡ [] → before_place (Some (front, after)) t ≡ t
before_start front after t e = ap (λ f. before_place (Some (f, after)) t) e

-- what follows the first `tel:` of what stands before the context
pub local_after : (t front before after : List ℕ) → parted (codes "tel:") front ≡ Some (before, after) → local_part t front ≡ after
local_after t front before after e =
    ap (λ (p : Option Parting). option_map_or (λ (q : Parting). q.1) p (cond (is_some (parted (codes "tel:") t)) [] front)) e

-- without one it counts whether one stands in the text
pub local_without : (t front : List ℕ) (told : Option Parting) → parted (codes "tel:") front ≡ None → parted (codes "tel:") t ≡ told →
    local_part t front ≡ cond (is_some told) [] front
local_without t front told e f =
    ap (λ (p : Option Parting). option_map_or (λ (q : Parting). q.1) p (cond (is_some (parted (codes "tel:") t)) [] front)) e
    ∙ ap (λ (p : Option Parting). cond (is_some p) [] front) f

pub local_untold : (t front : List ℕ) (o : Option (Bor (List ℕ) × Bor (List ℕ))) → parted (codes "tel:") front ≡ None →
    MatchOption o (parted (codes "tel:") t ≡ None) (λ p. parted (codes "tel:") t ≡ Some (chars p.0.now, chars p.1.now)) →
    local_part t front ≡ cond (is_some o) [] front
local_untold t front None e h = local_without t front None e h
local_untold t front (Some p) e h = local_without t front (Some (chars p.0.now, chars p.1.now)) e h
