-- Texts that do not have the `tel:` form, computed on its definition.
use Rattle.std.proofs.Common.{◌≡◌, ⊎_elim, ℕ, ◌==◌, true, false, Option, Some, None, List, [], ◌∷◌, ◌++◌, codes, refl, ap, sym, ◌∙◌, true≢false}
use Rattle.std.specs.List.{list_any}
use Rattle.ucd_case.proofs.Computing.{ucd_case}
use Rattle.phone_chars.specs.Cuts.{front, after_front}
use Rattle.phone_parts.specs.Tel
use Rattle.phone_parts.specs.Parts.{Parts}
use Rattle.phone_parts.specs.Tel.{IsTel, IsSignedRun, is_phonedigit}
use Rattle.phone_parts.specs.Texts.{begins}
use Rattle.phone_parts.proofs.Tels.{after_scheme, scheme_cut, tel_cuts, plus_run, not_visual}

-- a text with a space
pub spaced : (text : List ℕ) → list_any (λ c. c == 32) text ≡ true → (p : Parts) → ¬ (IsTel text p)
spaced text space p h = true≢false (sym space ∙ h.no_space)

-- no run after the plus sign
no_run_after_plus : (text after : List ℕ) → after_scheme text ≡ 43 ∷ after → begins not_visual (front not_visual after) ≡ false → (p : Parts) → ¬ (IsTel text p)
no_run_after_plus text after plus none p h =
    let run = plus_run (after_scheme text) after h.signed_run (p.national ++ h.tail) h.run plus (scheme_cut text p h) h.is_run in
    true≢false (sym run.some ∙ none)

-- no national part after the run
no_national : (text signs rest : List ℕ) (run : Option (List ℕ)) → after_scheme text ≡ signs ++ rest → IsSignedRun rest signs run →
    begins is_phonedigit (front is_phonedigit rest) ≡ false → (p : Parts) → ¬ (IsTel text p)
no_national text signs rest run cut is_run none p h =
    let cuts = tel_cuts text p h signs rest run cut is_run in
    true≢false (sym h.some_national ∙ ap (begins is_phonedigit) cuts.national ∙ none)

-- neither the end nor a parameter after the national part
bad_tail : (text signs rest : List ℕ) (run : Option (List ℕ)) → after_scheme text ≡ signs ++ rest → IsSignedRun rest signs run →
    (c : ℕ) (cs : List ℕ) → after_front is_phonedigit rest ≡ c ∷ cs → (c == 59) ≡ false → (p : Parts) → ¬ (IsTel text p)
bad_tail text signs rest run cut is_run c cs after other p h =
    let cuts = tel_cuts text p h signs rest run cut is_run in
    let tail : h.tail ≡ c ∷ cs = cuts.tail ∙ after in
    ⊎_elim
    (λ (e : h.tail ≡ []). cc)
    (λ (e : begins (λ c. c == 59) h.tail ≡ true). true≢false (sym e ∙ ap (begins (λ c. c == 59)) tail ∙ other))
    h.is_tail

pub all_in_run : (p : Parts) → ¬ (IsTel (codes "+6433316005") p)
unfolding ucd_case
all_in_run = no_national (codes "+6433316005") (codes "+6433316005") [] (Some (codes "6433316005")) refl (Tel.signed (codes "6433316005") refl refl refl) refl

pub space : (p : Parts) → ¬ (IsTel (codes "1 2") p)
space = spaced (codes "1 2") refl

pub sign_alone : (p : Parts) → ¬ (IsTel (codes "+") p)
unfolding ucd_case
sign_alone = no_run_after_plus (codes "+") [] refl refl

pub other_letters : (p : Parts) → ¬ (IsTel (codes "0800-4-pizza") p)
unfolding ucd_case
other_letters = bad_tail (codes "0800-4-pizza") [] (codes "0800-4-pizza") None refl (Tel.unsigned refl) 112 (codes "izza") refl refl
