use Rattle.std.proofs.Common.{◌≡◌, ◌⊎◌, inl, inr, List, ℕ, length, Some, option_map, Result, Err, ap, sym, subst, ◌∙◌}
use Rattle.std.specs.Cow.{cow_str_bytes}
use Rattle.std.specs.Str.{chars}
use Rattle.phone_values.specs.declared.error.ParseError.{ParseError}
use Rattle.phone_values.specs.declared.error.ParseError.TheVariants.{Memory}
use Rattle.phone_library_text.specs.NumberTexts.{HasNumberText}
use Rattle.phone_library_text.specs.Written
use Rattle.phone_library_text.specs.Written.{IsWritten, IsWrittenIn}
use Rattle.phone_library_text.specs.declared.written.WrittenNumber.{WrittenNumber}
use Rattle.phone_library_text.proofs.written.read_marked.Goals as goal

pub returns-in_default : goal.returns-in_default
returns-in_default c le =
    let text = chars c.args.text.now in
    inr (Written.nothing le (subst (λ o. HasNumberText text (option_map (λ t. chars (cow_str_bytes t)) o)) c.in_default.is c.in_ok-number.ensures))

-- where memory is refused, or something is written, so it is of the whole
passed : (t : List ℕ) (a b : Result WrittenNumber ParseError) → a ≡ b → (IsWrittenT : Result WrittenNumber ParseError → Type 0) →
    ((r : Result WrittenNumber ParseError) → IsWrittenT r → IsWritten t r) → (b ≡ Err Memory) ⊎ IsWrittenT b → (a ≡ Err Memory) ⊎ IsWritten t a
passed t a b e told to (inl m) = inl (e ∙ m)
passed t a b e told to (inr w) = inr (subst (IsWritten t) (sym e) (to b w))

pub returns : goal.returns
returns c le =
    let text = chars c.args.text.now in
    let number = chars c.as_str.result.now in
    let read : number ≡ chars (cow_str_bytes c.in-Some.number) = ap chars c.as_str.ensures.value in
    let has = subst (λ o. HasNumberText text (option_map (λ t. chars (cow_str_bytes t)) o)) c.in-Some.is c.in_ok-number.ensures in
    passed text c.in_place_of.result c.written_in-written.result c.in_place_of.ensures (IsWrittenIn number)
    (λ r w. Written.something number r le (subst (λ n. HasNumberText text (Some n)) (sym read) has) w)
    c.written_in-written.ensures
