-- That the last text of a plain number is the printed one.
use Rattle.std.proofs.Common.{◌≡◌, ℕ, ◌&&◌, Bool, true, false, cond, List, [], ◌∷◌, ◌++◌, map, take, drop, length, reverse, Option, None, Some, unwrap_or, append-nil, refl, ap, ap₂, sym, subst, ◌∙◌}
use Rattle.std.proofs.Math.Seq.{drop-append_seam, take-append_seam}
use Rattle.std.specs.Fmt.{decimal}
use Rattle.std.specs.List.{find}
use Rattle.std.specs.Option.{option_map_or, option_or}
use Rattle.phone_values.specs.Numbers.{text_of}
use Rattle.phone_values.specs.declared.country.Id.{Id}
use Rattle.phone_values.specs.declared.mode.Mode.{Mode}
use Rattle.phone_values.specs.declared.mode.Mode.TheVariants.{International, National}
use Rattle.phone_values.specs.declared.reading.Reading.{Reading}
use Rattle.phone_territory.specs.First.{is_whole_match, led_by}
use Rattle.phone_print.specs.Layouts.{laid, layouts_for, template_for}
use Rattle.phone_print.specs.Texts.{e164_text, extension_part, international_text, laid_out, national_text}
use Rattle.phone_records.specs.Missing.{first_given}
use Rattle.phone_records.specs.declared.loader.Format.{Format}
use Rattle.phone_records.specs.declared.loader.Metadata.{Metadata}
use Rattle.phone_territory.specs.Layouts.{laid_by, layout_pattern, suits, suits_by}
use Rattle.phone_typed.specs.Printed.{IsPlain, IsPlainAbroad, IsPlainAtHome, national_keys}
use Rattle.phone_typed.specs.Typed.{complete_text, first_complete, first_partial, if_shows, layout_territory, text_abroad, text_at, text_of_code, text_of_keys, typed}

-- what is found passes
pub found_passes : (p : Format → Bool) (fs : List Format) (f : Format) → find p fs ≡ Some f → p f ≡ true
found_passes p [] f e = absurd (cc)
found_passes p (g ∷ gs) f e = at (p g) refl e (found_passes p gs f)
  where
    at : (b : Bool) → p g ≡ b → cond b (Some g) (find p gs) ≡ Some f → (find p gs ≡ Some f → p f ≡ true) → p f ≡ true
    at true h e more = let same : g ≡ f = cc in subst (λ f. p f ≡ true) same h
    at false h e more = more e

-- where what doesn't pass gives nothing, the first that passes gives the first answer
pub first_by : (p : Format → Bool) (by : Format → Option (List ℕ)) (fs : List Format) (f : Format) (t : List ℕ) → ((g : Format) → p g ≡ false → by g ≡ None) →
    find p fs ≡ Some f → by f ≡ Some t → first_given (map by fs) ≡ Some t
first_by p by [] f t none e h = absurd (cc)
first_by p by (g ∷ gs) f t none e h = at (p g) refl e (λ e. first_by p by gs f t none e h)
  where
    at : (b : Bool) → p g ≡ b → cond b (Some g) (find p gs) ≡ Some f → (find p gs ≡ Some f → first_given (map by gs) ≡ Some t) →
        option_or (by g) (first_given (map by gs)) ≡ Some t
    at true q e more = let same : g ≡ f = cc in ap (λ o. option_or o (first_given (map by gs))) (subst (λ g. by g ≡ Some t) (sym same) h)
    at false q e more = ap (λ o. option_or o (first_given (map by gs))) (none g q) ∙ more e

-- a layout that doesn't suit digits doesn't lay all of them out
unsuited : (digits pattern : List ℕ) (leading : List (List ℕ)) → suits_by digits pattern leading ≡ false → (led_by digits leading && is_whole_match pattern digits) ≡ false
unsuited digits pattern [] h = absurd (cc)
unsuited digits pattern (last ∷ others) h = h

-- one that suits them and matches them whole does
suited : (digits pattern : List ℕ) (leading : List (List ℕ)) → suits_by digits pattern leading ≡ true → is_whole_match pattern digits ≡ true →
    (led_by digits leading && is_whole_match pattern digits) ≡ true
suited digits pattern [] h whole = whole
suited digits pattern (last ∷ others) h whole = h

module _ (m : Metadata) (mode : Mode) (n : Reading) (keys : List ℕ) (plain : IsPlain m mode n keys) where
  abbrev digits : List ℕ
  digits = text_of n.national

  abbrev text : List ℕ
  text = laid_out m mode None n

  -- what the layout prints is the number laid out
  pub laid_text : laid_by plain.layout (template_for plain.layout m mode None) digits ≡ text
  laid_text = sym (ap₂ (λ (f : Option Format) (carrier : Option (List ℕ)). laid f m mode carrier digits) plain.first plain.no_carrier)

  by_layout : complete_text m mode digits keys plain.layout ≡ Some text
  by_layout =
      let fits = suited digits (layout_pattern plain.layout) (reverse plain.layout.leading_digits)
      (found_passes (suits digits) (layouts_for m mode) plain.layout plain.first) plain.whole in
      ap (λ b. cond b (if_shows keys (laid_by plain.layout (template_for plain.layout m mode None) digits)) None) fits
      ∙ ap (if_shows keys) laid_text
      ∙ ap (λ b. cond b (Some text) None) plain.shown

  none_before : (g : Format) → suits digits g ≡ false → complete_text m mode digits keys g ≡ None
  none_before g h =
      ap (λ b. cond b (if_shows keys (laid_by g (template_for g m mode None) digits)) None)
      (unsuited digits (layout_pattern g) (reverse g.leading_digits) h)

  pub text_of_plain : text_of_keys m mode digits keys ≡ text
  text_of_plain =
      ap (λ b. cond b keys (unwrap_or (option_or (first_complete m mode digits keys) (first_partial m mode digits keys)) keys)) plain.long_enough
      ∙ ap (λ o. unwrap_or (option_or o (first_partial m mode digits keys)) keys)
      (first_by (suits digits) (complete_text m mode digits keys) (layouts_for m mode) plain.layout text none_before plain.first by_layout)

-- without an extension nothing follows
no_extension : (m : Metadata) (e : Option (List ℕ)) → e ≡ None → extension_part m e ≡ []
no_extension m e h = ap (extension_part m) h

pub typed_abroad : (db : List Metadata) (hint : Option Id) (m : Metadata) (n : Reading) → IsPlainAbroad db m n → typed db hint (e164_text n) ≡ international_text m None n
typed_abroad db hint m n h =
    let code = decimal n.code.value in
    let digits = text_of n.national in
    let k = length code in
    let laid_out_text = text_of_plain m International n digits h.plain in
    ap (λ o. option_map_or (text_of_code db (code ++ digits)) o (43 ∷ (code ++ digits))) h.code
    ∙ ap (λ o. option_map_or (λ m. 43 ∷ (take k (code ++ digits) ++ 32 ∷
    text_of_keys m International (drop k (code ++ digits)) (drop k (code ++ digits)))) o (43 ∷ (code ++ digits))) h.territory
    ∙ ap₂ (λ front back. 43 ∷ (front ++ 32 ∷ text_of_keys m International back back)) (take-append_seam code digits) (drop-append_seam code digits)
    ∙ ap (λ t. 43 ∷ (code ++ 32 ∷ t)) (laid_out_text ∙ sym (append-nil (laid_out m International None n)) ∙ ap (λ e. laid_out m International None n ++ e) (sym (no_extension m n.extension h.plain.no_extension)))

pub typed_at_home : (db : List Metadata) (hint : Option Id) (m : Metadata) (n : Reading) → IsPlainAtHome db hint m n →
    typed db hint (national_keys m n) ≡ national_text m None n
typed_at_home db hint m n h =
    let keys = national_keys m n in
    let front = h.first_key in
    let others = h.other_keys in
    ap (typed db hint) h.keys
    ∙ ap (λ b. cond b (text_abroad db others) (option_map_or (λ m. text_at m (front ∷ others)) (layout_territory db hint) (front ∷ others))) h.no_sign
    ∙ ap (λ o. option_map_or (λ m. text_at m (front ∷ others)) o (front ∷ others)) h.territory
    ∙ ap (text_at m) (sym h.keys)
    ∙ ap (λ national. text_of_keys m National national keys) h.left
    ∙ text_of_plain m National n keys h.plain
    ∙ sym (append-nil (laid_out m National None n))
    ∙ ap (λ e. laid_out m National None n ++ e) (sym (no_extension m n.extension h.plain.no_extension))
