-- The text that is dialled, by the number's national and international text.
use Rattle.std.proofs.Common.{◌≡◌, ℕ, ◌==◌, true, false, List, ◌++◌, codes, drop, Option, None, Some, IfOk, option_map, Result, Ok, Err, append_assoc, refl, ap, ap₂, sym, ◌∙◌, ◌∷◌, []}
use Rattle.std.proofs.lemmas.Bool.{cond-false, cond-true}
use Rattle.std.specs.Option.{option_map_or}
use Rattle.phone_values.specs.declared.mode.Mode.{Mode}
use Rattle.phone_values.specs.declared.mode.Mode.TheVariants.{International, National}
use Rattle.phone_territory.specs.Records.{code_of}
use Rattle.phone_records.specs.declared.loader.Metadata.{Metadata}
use Rattle.phone_values.specs.declared.reading.Reading.{Reading}
use Rattle.phone_print.specs.Texts.{international_text, national_text, text_by}
use Rattle.phone_engine.specs.Dialled.{dialled_by, dialled_prefix, dialling_prefix_of}
use Rattle.phone_engine.specs.declared.dialled.DialError.{DialError}
use Rattle.phone_engine.specs.declared.dialled.DialError.TheVariants.{UnknownCode, UnknownRegion}

module _ (from : Metadata) (n : Reading) where
  -- what is dialled from a territory, laid out by another, if there is one
  abbrev pub told : Option Metadata → Result (List ℕ) DialError
  told o = option_map_or (λ (m : Metadata). Ok (dialled_by from m n)) o (Err UnknownCode)

  pub told_at_home : (o : Option Metadata) (t : List ℕ) → (code_of from == n.code.value) ≡ true →
      option_map (λ (m : Metadata). text_by m National None n) o ≡ Some t → told o ≡ Ok t
  told_at_home None t same e = cc
  told_at_home (Some m) t same e =
      let inside : national_text m None n ≡ t = cc in ap Ok (cond-true _ _ _ same ∙ inside)

  pub told_abroad : (o : Option Metadata) (t out : List ℕ) →
      (code_of from == n.code.value) ≡ false →
      option_map (λ (m : Metadata). text_by m International None n) o ≡ Some t →
      ((rest : List ℕ) → t ≡ codes "+" ++ rest → out ≡ dialling_prefix_of from ++ rest) →
      told o ≡ Ok out
  told_abroad None t out other e h = cc
  told_abroad (Some m) t out other e h =
      let inside : international_text m None n ≡ t = cc in
      ap Ok (cond-false _ _ _ other ∙ sym (h (drop 1 (international_text m None n)) (sym inside)))

  pub told_unknown : (mode : Mode) (o : Option Metadata) →
      option_map (λ (m : Metadata). text_by m mode None n) o ≡ None → told o ≡ Err UnknownCode
  told_unknown mode None e = refl
  told_unknown mode (Some m) e = cc

  pub unknown_told : (mode : Mode) (o : Option Metadata) → told o ≡ Err UnknownCode →
      option_map (λ (m : Metadata). text_by m mode None n) o ≡ None
  unknown_told mode None e = refl
  unknown_told mode (Some m) e = cc

  pub told_region : (o : Option Metadata) → ¬ (told o ≡ Err UnknownRegion)
  told_region None e = cc
  told_region (Some m) e = cc

-- what is dialled behind a prefix, by its parts
pub behind : {X E : Type 0} (bytes : X → List ℕ) (from : Metadata) (p r text : List ℕ)
    (out : Result X E) → Some p ≡ dialled_prefix from → text ≡ 43 ∷ r →
    IfOk out (λ t. bytes t ≡ p ++ 32 ∷ r) →
    IfOk out (λ t. (rest : List ℕ) → text ≡ 43 ∷ rest → bytes t ≡ dialling_prefix_of from ++ rest)
behind bytes from p r text (Err e) prefix whole h = tt
behind bytes from p r text (Ok t) prefix whole h = λ rest same.
    let front : p ++ 32 ∷ [] ≡ dialling_prefix_of from =
    ap (λ o. option_map_or (λ p. p ++ 32 ∷ []) o (codes "+")) prefix in
    let tail : r ≡ rest = ap (drop 1) (sym whole ∙ same) in
    h ∙ sym (append_assoc p (32 ∷ []) r) ∙ ap₂ (λ a b. a ++ b) front tail
