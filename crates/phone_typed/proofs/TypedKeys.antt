-- That what is shown shows the keys.
use Rattle.std.proofs.Common.{◌≡◌, ℕ, ◌==◌, ◌||◌, Bool, true, false, cond, List, [], ◌∷◌, ◌++◌, map, take, drop, length, filter, Option, None, Some, unwrap_or, IfSome, eqb-true, refl, ap, ap₂, sym, subst, ◌∙◌}
use Rattle.std.proofs.lemmas.Bool.{and_from, and_parts}
use Rattle.std.proofs.lemmas.List.{take-append-drop}
use Rattle.std.proofs.lemmas.List.Elements.{filter-append}
use Rattle.std.proofs.lemmas.List.Folds.{list_all-append}
use Rattle.std.proofs.lemmas.Slice.Eq.{bytes_eq-Decides}
use Rattle.std.specs.Fmt.{decimal}
use Rattle.std.specs.List.{list_all}
use Rattle.std.specs.Option.{option_map_or, option_or}
use Rattle.phone_values.specs.declared.country.Id.{Id}
use Rattle.phone_values.specs.declared.mode.Mode.{Mode}
use Rattle.phone_values.specs.declared.mode.Mode.TheVariants.{International, National}
use Rattle.phone_plans.specs.CodeLookUps.{first_of, shortest, territories}
use Rattle.phone_print.specs.Layouts.{layouts_for, template_for}
use Rattle.phone_territory.specs.Layouts.{laid_by}
use Rattle.phone_read.specs.Strips.{step}
use Rattle.phone_records.specs.Missing.{first_given}
use Rattle.phone_records.specs.declared.loader.Format.{Format}
use Rattle.phone_records.specs.declared.loader.Metadata.{Metadata}
use Rattle.phone_typed.specs.Keys.{is_key, is_mark, shows, up_to_key}
use Rattle.phone_typed.specs.Typed.{complete_text, first_complete, first_partial, if_shows, is_short, layout_territory, lays_out, lays_out_all, partial_text, text_abroad, text_at, text_of_code, text_of_keys, typed, with_nines}

-- a byte may stand in a text that shows keys
abbrev may_stand : ℕ → Bool
may_stand c = is_key c || is_mark c

-- the keys are all that stands in the text, but for marks
abbrev pub Shows : List ℕ → List ℕ → Type 0
Shows keys text = (filter is_key text ≡ keys) × (list_all may_stand text ≡ true)

pub Shows-shows : (keys text : List ℕ) → shows keys text ≡ true → Shows keys text
Shows-shows keys text h =
    let parts = and_parts _ _ h in
    ((bytes_eq-Decides (filter is_key text) keys).0 parts.0, parts.1)

-- one text after another
pub Shows-append : (a b s t : List ℕ) → Shows a s → Shows b t → Shows (a ++ b) (s ++ t)
Shows-append a b s t hs ht = (
  filter-append is_key s t ∙ ap₂ (λ x y. x ++ y) hs.0 ht.0,
  list_all-append may_stand s t ∙ and_from _ _ hs.1 ht.1,
)

-- keys show themselves
pub Shows-keys : (keys : List ℕ) → list_all is_key keys ≡ true → Shows keys keys
Shows-keys [] h = (refl, refl)
Shows-keys (k ∷ keys) h =
    let parts = and_parts (is_key k) (list_all is_key keys) h in
    let rest = Shows-keys keys parts.1 in (
      ap (λ b. cond b (k ∷ filter is_key keys) (filter is_key keys)) parts.0 ∙ ap (λ t. k ∷ t) rest.0,
      and_from _ _ (ap (λ b. b || is_mark k) parts.0) rest.1,
    )

-- what may be given shows the keys
abbrev ShowsIfAny : List ℕ → Option (List ℕ) → Type 0
ShowsIfAny keys o = IfSome o (Shows keys)

shows-if : (keys text : List ℕ) → ShowsIfAny keys (if_shows keys text)
shows-if keys text = at (shows keys text) refl
  where
    at : (b : Bool) → shows keys text ≡ b → ShowsIfAny keys (cond b (Some text) None)
    at true h = Shows-shows keys text h
    at false h = tt

shows-when : (keys : List ℕ) (b : Bool) (o : Option (List ℕ)) → ShowsIfAny keys o → ShowsIfAny keys (cond b o None)
shows-when keys true o h = h
shows-when keys false o h = tt

shows-or : (keys : List ℕ) (a b : Option (List ℕ)) → ShowsIfAny keys a → ShowsIfAny keys b → ShowsIfAny keys (option_or a b)
shows-or keys None b ha hb = hb
shows-or keys (Some t) b ha hb = ha

shows-first : (keys : List ℕ) (by : Format → Option (List ℕ)) (fs : List Format) → ((f : Format) → ShowsIfAny keys (by f)) →
    ShowsIfAny keys (first_given (map by fs))
shows-first keys by [] h = tt
shows-first keys by (f ∷ fs) h = shows-or keys (by f) (first_given (map by fs)) (h f) (shows-first keys by fs h)

shows-else : (keys : List ℕ) (o : Option (List ℕ)) (d : List ℕ) → ShowsIfAny keys o → Shows keys d → Shows keys (unwrap_or o d)
shows-else keys None d ho hd = hd
shows-else keys (Some t) d ho hd = ho

keys-when : (keys : List ℕ) (b : Bool) (t : List ℕ) → Shows keys keys → Shows keys t → Shows keys (cond b keys t)
keys-when keys true t hk ht = hk
keys-when keys false t hk ht = ht

text_of_keys-shows : (m : Metadata) (mode : Mode) (national keys : List ℕ) → list_all is_key keys ≡ true → Shows keys (text_of_keys m mode national keys)
text_of_keys-shows m mode national keys are =
    let whole = first_complete m mode national keys in
    let begun = first_partial m mode national keys in
    let printed : List ℕ → Format → List ℕ = λ digits f. laid_by f (template_for f m mode None) digits in
    let as_they_are = Shows-keys keys are in
    keys-when keys (is_short national || is_short keys) (unwrap_or (option_or whole begun) keys) as_they_are
    (shows-else keys (option_or whole begun) keys
    (shows-or keys whole begun
    (shows-first keys (complete_text m mode national keys) (layouts_for m mode)
    (λ f. shows-when keys (lays_out_all national f) (if_shows keys (printed national f)) (shows-if keys (printed national f))))
    (shows-first keys (partial_text m mode (length national) (with_nines national) keys) (layouts_for m mode)
    (λ f. shows-when keys (lays_out (length national) (with_nines national) f) (if_shows keys (up_to_key (length keys) (printed (with_nines national) f)))
    (shows-if keys (up_to_key (length keys) (printed (with_nines national) f))))))
    as_they_are)

-- after a plus sign
signed-shows : (digits : List ℕ) → list_all is_key digits ≡ true → Shows (43 ∷ digits) (43 ∷ digits)
signed-shows digits are = Shows-keys (43 ∷ digits) are

code-shows : (k : ℕ) (digits text : List ℕ) → list_all is_key digits ≡ true → Shows (drop k digits) text → Shows (43 ∷ digits) (43 ∷ (take k digits ++ 32 ∷ text))
code-shows k digits text are h =
    let parts = and_parts _ _ (sym (list_all-append is_key (take k digits) (drop k digits)) ∙ ap (list_all is_key) (take-append-drop k digits) ∙ are) in
    let front = Shows-keys (43 ∷ take k digits) parts.0 in
    let back : Shows (drop k digits) (32 ∷ text) = h in
    subst (λ ks. Shows (43 ∷ ks) (43 ∷ (take k digits ++ 32 ∷ text))) (take-append-drop k digits)
    (Shows-append (43 ∷ take k digits) (drop k digits) (43 ∷ take k digits) (32 ∷ text) front back)

all-drop : (k : ℕ) (digits : List ℕ) → list_all is_key digits ≡ true → list_all is_key (drop k digits) ≡ true
all-drop k digits are = (and_parts _ _ (sym (list_all-append is_key (take k digits) (drop k digits)) ∙ ap (list_all is_key) (take-append-drop k digits) ∙ are)).1

text_of_code-shows : (db : List Metadata) (digits : List ℕ) (code : ℕ) → list_all is_key digits ≡ true → Shows (43 ∷ digits) (text_of_code db digits code)
text_of_code-shows db digits code are = at (first_of (territories code db))
  where
    k : ℕ
    k = length (decimal code)

    at : (o : Option Metadata) → Shows (43 ∷ digits)
        (option_map_or (λ m. 43 ∷ (take k digits ++ 32 ∷ text_of_keys m International (drop k digits) (drop k digits))) o (43 ∷ digits))
    at None = signed-shows digits are
    at (Some m) = code-shows k digits _ are (text_of_keys-shows m International (drop k digits) (drop k digits) (all-drop k digits are))

text_abroad-shows : (db : List Metadata) (digits : List ℕ) → list_all is_key digits ≡ true → Shows (43 ∷ digits) (text_abroad db digits)
text_abroad-shows db digits are = at (shortest db digits)
  where
    at : (o : Option ℕ) → Shows (43 ∷ digits) (option_map_or (text_of_code db digits) o (43 ∷ digits))
    at None = signed-shows digits are
    at (Some code) = text_of_code-shows db digits code are

at-home : (keys : List ℕ) (o : Option Metadata) → list_all is_key keys ≡ true → Shows keys (option_map_or (λ m. text_at m keys) o keys)
at-home keys None are = Shows-keys keys are
at-home keys (Some m) are = text_of_keys-shows m National (step m keys None).national keys are

pub typed-shows : (db : List Metadata) (hint : Option Id) (keys : List ℕ) → list_all is_key keys ≡ true → Shows keys (typed db hint keys)
typed-shows db hint [] are = (refl, refl)
typed-shows db hint (k ∷ keys) are = at (k == 43) refl
  where
    at : (b : Bool) → (k == 43) ≡ b → Shows (k ∷ keys) (cond b (text_abroad db keys) (option_map_or (λ m. text_at m (k ∷ keys)) (layout_territory db hint) (k ∷ keys)))
    at true e = subst (λ c. Shows (c ∷ keys) (text_abroad db keys)) (sym (eqb-true k 43 e)) (text_abroad-shows db keys (and_parts (is_key k) _ are).1)
    at false e = at-home (k ∷ keys) (layout_territory db hint) are
