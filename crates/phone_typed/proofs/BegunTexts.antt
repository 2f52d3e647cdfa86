-- That the beginning of a plain number is shown as it stands in the printed text.
use Rattle.std.proofs.Common.{◌≡◌, ℕ, ◌+◌, ◌≤◌, ◌&&◌, Bool, true, false, cond, List, [], ◌∷◌, ◌++◌, map, take, drop, length, filter, Option, None, Some, unwrap_or, refl, ap, sym, subst, ◌∙◌, arith}
use Rattle.std.proofs.Math.Seq.{take-append_seam}
use Rattle.std.proofs.lemmas.Bool.{and_from, and_parts, or_parts}
use Rattle.std.proofs.lemmas.List.{length-append}
use Rattle.std.proofs.lemmas.List.Folds.{list_all-append}
use Rattle.std.specs.List.{find, list_all, list_any}
use Rattle.std.specs.Option.{option_or}
use Rattle.phone_values.specs.Numbers.{text_of}
use Rattle.phone_values.specs.declared.mode.Mode.{Mode}
use Rattle.phone_values.specs.declared.reading.Reading.{Reading}
use Rattle.phone_print.specs.Layouts.{layouts_for, template_for}
use Rattle.phone_print.specs.Texts.{laid_out}
use Rattle.phone_records.specs.Missing.{first_given}
use Rattle.phone_records.specs.declared.loader.Format.{Format}
use Rattle.phone_records.specs.declared.loader.Metadata.{Metadata}
use Rattle.phone_territory.specs.First.{is_whole_match}
use Rattle.phone_territory.specs.Layouts.{laid_by, layout_pattern}
use Rattle.phone_typed.specs.Beginnings.{IsBegun, serves, serves_complete}
use Rattle.phone_typed.specs.Keys.{is_key, shows, up_to_key}
use Rattle.phone_typed.specs.Printed.{IsPlain}
use Rattle.phone_typed.specs.Typed.{complete_text, first_complete, first_partial, if_shows, lays_out, lays_out_all, nines, partial_text, text_of_keys, with_nines}
use Rattle.phone_typed.proofs.BlankTexts.{blanks, same_front}
use Rattle.phone_typed.proofs.LaidAlike.{all-drop, laid_alike}
use Rattle.phone_typed.proofs.PrintedTexts.{first_by, found_passes, laid_text}
use Rattle.phone_typed.proofs.TypedKeys.{Shows-shows}

-- nines after keys are keys
with_nines_keys : (digits : List ℕ) → list_all is_key digits ≡ true → list_all is_key (with_nines digits) ≡ true
with_nines_keys digits are = list_all-append is_key digits (drop (length digits) nines) ∙ and_from _ _ are (all-drop (length digits) nines refl)

-- where a layout lays digits out and its text shows the keys, that text is given
served : (b : Bool) (keys text : List ℕ) → (b && shows keys text) ≡ true →
    (b ≡ true) × (shows keys text ≡ true) × (cond b (if_shows keys text) None ≡ Some text)
served b keys text h =
    let parts = and_parts b (shows keys text) h in
    (parts.0, parts.1, ap (λ x. cond x (if_shows keys text) None) parts.0 ∙ ap (λ x. cond x (Some text) None) parts.1)

-- else none
unserved : (b : Bool) (keys text : List ℕ) → (b && shows keys text) ≡ false → cond b (if_shows keys text) None ≡ None
unserved false keys text h = refl
unserved true keys text h = ap (λ x. cond x (Some text) None) h

-- where none of the layouts passes, and what doesn't pass gives nothing, nothing is given
none_given : (p : Format → Bool) (by : Format → Option (List ℕ)) (fs : List Format) → ((g : Format) → p g ≡ false → by g ≡ None) →
    list_any p fs ≡ false → first_given (map by fs) ≡ None
none_given p by [] none h = refl
none_given p by (g ∷ gs) none h =
    let parts = or_parts (p g) (list_any p gs) h in
    ap (λ o. option_or o (first_given (map by gs))) (none g parts.0) ∙ none_given p by gs none parts.1

chosen : (b : Bool) (found : Option Format) (f : Format) → cond b None found ≡ Some f → (b ≡ false) × (found ≡ Some f)
chosen false found f h = (refl, h)
chosen true found f h = absurd (cc)

module _ (m : Metadata) (mode : Mode) (n : Reading) (all national keys rest : List ℕ) (plain : IsPlain m mode n all) (h : IsBegun m mode n national keys) where
  abbrev text : List ℕ
  text = laid_out m mode None n

  abbrev begun_text : List ℕ
  begun_text = laid_by h.layout (template_for h.layout m mode None) (with_nines national)

  parts : (list_any (serves_complete m mode national keys) (layouts_for m mode) ≡ false) × (find (serves m mode national keys) (layouts_for m mode) ≡ Some h.layout)
  parts = chosen (list_any (serves_complete m mode national keys) (layouts_for m mode)) (find (serves m mode national keys) (layouts_for m mode)) h.layout h.begun

  -- no layout gives a text of the keys as of a complete number's
  incomplete : first_complete m mode national keys ≡ None
  incomplete = none_given (serves_complete m mode national keys) (complete_text m mode national keys) (layouts_for m mode)
      (λ g e. unserved (lays_out_all national g) keys (laid_by g (template_for g m mode None) national) e) parts.0

  told : (lays_out (length national) (with_nines national) h.layout ≡ true) × (shows keys (up_to_key (length keys) begun_text) ≡ true)
      × (partial_text m mode (length national) (with_nines national) keys h.layout ≡ Some (up_to_key (length keys) begun_text))
  told = served (lays_out (length national) (with_nines national) h.layout) keys (up_to_key (length keys) begun_text)
      (found_passes (serves m mode national keys) (layouts_for m mode) h.layout parts.1)

  -- what is shown is what the layout prints, up to the last key
  by_layout : text_of_keys m mode national keys ≡ up_to_key (length keys) begun_text
  by_layout =
      ap (λ b. cond b keys (unwrap_or (option_or (first_complete m mode national keys) (first_partial m mode national keys)) keys)) h.long_enough
      ∙ ap (λ o. unwrap_or (option_or o (first_partial m mode national keys)) keys) incomplete
      ∙ ap (λ o. unwrap_or o keys)
      (first_by (serves m mode national keys) (partial_text m mode (length national) (with_nines national) keys) (layouts_for m mode) h.layout (up_to_key (length keys) begun_text)
      (λ g e. unserved (lays_out (length national) (with_nines national) g) keys (up_to_key (length keys) (laid_by g (template_for g m mode None) (with_nines national))) e) parts.1 told.2)

  same_layout : plain.layout ≡ h.layout
  same_layout = let same : Some plain.layout ≡ Some h.layout = sym plain.first ∙ h.complete in cc

  printed : laid_by h.layout (template_for h.layout m mode None) (text_of n.national) ≡ text
  printed = subst (λ f. laid_by f (template_for f m mode None) (text_of n.national) ≡ text) same_layout (laid_text m mode n all plain)

  pub text_of_begun : all ≡ keys ++ rest → list_all is_key (text_of n.national) ≡ true → list_all is_key national ≡ true →
      text_of_keys m mode national keys ≡ up_to_key (length keys) text
  text_of_begun split digits are =
      let whole = subst (λ f. is_whole_match (layout_pattern f) (text_of n.national) ≡ true) same_layout plain.whole in
      let laid = laid_alike h.layout (template_for h.layout m mode None) (text_of n.national) (with_nines national) (length national)
      digits (with_nines_keys national are) h.alike whole told.0 in
      let shown : filter is_key text ≡ keys ++ rest = (Shows-shows all text plain.shown).0 ∙ split in
      let some : length keys ≤ length (filter is_key text) = omega (arith, ap length shown, length-append keys rest) in
      let begun : filter is_key (up_to_key (length keys) begun_text) ≡ keys = (Shows-shows keys (up_to_key (length keys) begun_text) told.1).0 in
      by_layout
      ∙ ap (up_to_key (length keys)) laid.2
      ∙ same_front (length keys) text laid.0 laid.1 (laid.3 ∙ ap blanks printed) some
      (ap (λ t. filter is_key (up_to_key (length keys) t)) (sym laid.2) ∙ begun ∙ sym (ap (take (length keys)) shown ∙ take-append_seam keys rest))
