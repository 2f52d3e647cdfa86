-- An international prefix that is dialled isn't empty.
use Rattle.std.proofs.Common.{◌≡◌, ◌==◌, ◌&&◌, if◌then◌else◌, ℕ, Bool, true, false, not, List, [], length, Option, None, Some, subst}
use Rattle.std.specs.List.{list_all}
use Rattle.std.specs.Option.{option_and_then, option_or}
use Rattle.phone_chars.specs.Characters.{is_digit}
use Rattle.phone_records.specs.declared.loader.Metadata.{Metadata}
use Rattle.phone_engine.specs.Dialled.{dialled_prefix, if_digits, if_some}

chosen : (b : Bool) (t : List ℕ) → (if b then None else Some t) ≡ Some [] → t ≡ []
chosen true t e = cc
chosen false t e = cc

taken : (b : Bool) (t : List ℕ) → (if b then Some t else None) ≡ Some [] → t ≡ []
taken true t e = cc
taken false t e = cc

never_some : (t : List ℕ) → ¬ (if_some t ≡ Some [])
never_some t e =
    let same : if_some [] ≡ Some [] =
    subst (λ t. if_some t ≡ Some []) (chosen (length t == 0) t e) e in cc

never_digits : (t : List ℕ) → ¬ (if_digits t ≡ Some [])
never_digits t e =
    let same : if_digits [] ≡ Some [] =
    subst (λ t. if_digits t ≡ Some []) (taken (not (length t == 0) && list_all is_digit t) t e) e in cc

never_then : (f : List ℕ → Option (List ℕ)) (o : Option (List ℕ)) →
    ((t : List ℕ) → ¬ (f t ≡ Some [])) → ¬ (option_and_then f o ≡ Some [])
never_then f None never e = cc
never_then f (Some t) never e = never t e

never_either : (a b : Option (List ℕ)) → ¬ (a ≡ Some []) → ¬ (b ≡ Some []) →
    ¬ (option_or a b ≡ Some [])
never_either None b first second e = second e
never_either (Some t) b first second e = first e

pub never_empty : (m : Metadata) → ¬ (dialled_prefix m ≡ Some [])
never_empty m = never_either (option_and_then if_some m.preferred_international_prefix)
    (option_and_then if_digits m.international_prefix)
    (never_then if_some m.preferred_international_prefix never_some)
    (never_then if_digits m.international_prefix never_digits)
