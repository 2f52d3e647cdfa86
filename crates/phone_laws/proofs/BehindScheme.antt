-- A text that begins a number is read alike behind `tel:`, where no context is named.
use Rattle.std.proofs.Common.{◌≡◌, ℕ, Bool, true, false, List, [], ◌∷◌, ◌++◌, codes, length-append, Option, None, Some, option_map, Result, Ok, refl, ap, sym, subst, ◌∙◌, arith, true≢false}
use Rattle.std.proofs.lemmas.Bool.{or_parts}
use Rattle.std.specs.List.{list_any}
use Rattle.ucd_category.proofs.Computing.{ucd_category}
use Rattle.phone_library.specs.Readings
use Rattle.phone_library.specs.Readings.{ReadsByLibrary}
use Rattle.phone_library_text.specs.NumberTexts
use Rattle.phone_library_text.specs.NumberTexts.{HasNumberText, context_name}
use Rattle.phone_library_text.specs.Places.{parted}
use Rattle.phone_library_text.specs.Written
use Rattle.phone_library_text.specs.Written.{IsWritten}
use Rattle.phone_library_text.specs.declared.written.WrittenNumber.{WrittenNumber}
use Rattle.phone_parts.specs.Cores.{IsCore, is_start}
use Rattle.phone_parts.specs.Texts.{begins}
use Rattle.phone_records.specs.declared.loader.Metadata.{Metadata}
use Rattle.phone_values.specs.declared.country.Id.{Id}
use Rattle.phone_values.specs.declared.error.ParseError.{ParseError}
use Rattle.phone_values.specs.declared.reading.Reading.{Reading}

abbrev tel : List ℕ
tel = codes "tel:"

none_inside : {A B : Type 0} (f : A → B) (o : Option A) → option_map f o ≡ None → o ≡ None
none_inside f None e = refl
none_inside f (Some x) e = absurd (cc)

no_context : (t : List ℕ) → parted context_name (tel ++ t) ≡ None → parted context_name t ≡ None
no_context t e = none_inside _ _ (none_inside _ _ (none_inside _ _ (none_inside _ _ e)))

tel_starts : list_any is_start tel ≡ false
unfolding ucd_category
tel_starts = refl

-- what stands before the first start character, without a front that has none
module _ (p : ℕ → Bool) (from : List ℕ) (starts : begins p from ≡ true) where
  abbrev Parts : List ℕ → Type 0
  Parts t = (before : List ℕ) × (t ≡ before ++ from) × (list_any p before ≡ false)

  without_front : (v t before : List ℕ) → list_any p v ≡ false → v ++ t ≡ before ++ from → list_any p before ≡ false → Parts t
  without_front [] t before idle e none = (before, e, none)
  without_front (c ∷ cs) t [] idle e none =
      absurd (true≢false (sym starts ∙ ap (begins p) (sym e) ∙ (or_parts (p c) (list_any p cs) idle).0))
  without_front (c ∷ cs) t (b ∷ bs) idle e none =
      let tail : cs ++ t ≡ bs ++ from = cc in
      without_front cs t bs (or_parts (p c) (list_any p cs) idle).1 tail (or_parts (p b) (list_any p bs) none).1

module _ (t : List ℕ) (plain : parted context_name (tel ++ t) ≡ None) where
  core_bare : (core : List ℕ) → IsCore (tel ++ t) core → IsCore t core
  core_bare core h =
      let parts = without_front is_start h.from h.starts tel t h.before tel_starts h.whole h.no_start in record {
        before = parts.0;
        from = h.from;
        kept = h.kept;
        whole = parts.1;
        no_start = parts.2;
        starts = h.starts;
        trimmed = h.trimmed;
        first = h.first;
        not_empty = h.not_empty;
      }

  text_bare : (o : Option (List ℕ)) → HasNumberText (tel ++ t) o → (n : List ℕ) → o ≡ Some n → HasNumberText t o
  text_bare o (NumberTexts.local front after e context) n is = absurd (let bad : None ≡ Some (front, after) = sym plain ∙ e in cc)
  text_bare o (NumberTexts.no_context front after e none) n is = absurd (cc)
  text_bare o (NumberTexts.free core e h) n is = NumberTexts.free core (no_context t plain) (core_bare core h)
  text_bare o (NumberTexts.nothing e none) n is = absurd (cc)

  written_bare : (x : Result WrittenNumber ParseError) → IsWritten (tel ++ t) x → (w : WrittenNumber) → x ≡ Ok w → IsWritten t x
  written_bare x (Written.too_long h) w is = absurd (cc)
  written_bare x (Written.nothing few h) w is = absurd (cc)
  written_bare x (Written.something n y few h inside) w is =
      let l = length-append tel t in
      Written.something n y (omega (arith, l, few)) (text_bare (Some n) h n refl) inside

  read_bare : (db : List Metadata) (hint : Option Id) (r : Result Reading ParseError) → ReadsByLibrary db hint (tel ++ t) r → (m : Reading) → r ≡ Ok m →
      ReadsByLibrary db hint t r
  read_bare db hint r (Readings.refused e h) m is = absurd (cc)
  read_bare db hint r (Readings.written w h) m is = Readings.written w (written_bare (Ok w) h w refl)

  -- what is read as a number behind the scheme is read so without it
  pub behind_scheme : (db : List Metadata) (hint : Option Id) (m : Reading) (text : List ℕ) → text ≡ tel ++ t → ReadsByLibrary db hint text (Ok m) →
      ReadsByLibrary db hint t (Ok m)
  behind_scheme db hint m text e reads =
      read_bare db hint (Ok m) (subst (λ (u : List ℕ). ReadsByLibrary db hint u (Ok m)) e reads) m refl
