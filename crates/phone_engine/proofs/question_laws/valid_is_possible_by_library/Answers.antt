use Rattle.std.proofs.Common.{◌≡◌, ◌==◌, Bool, true, false, if◌then◌else◌, length, refl, ap, ◌∙◌}
use Rattle.std.specs.List.{list_any}
use Rattle.std.specs.Option.{option_map_or}
use Rattle.phone_values.specs.Numbers.{text_of}
use Rattle.phone_values.specs.declared.validator.Validation.TheVariants.{IsPossible, IsPossibleLocalOnly}
use Rattle.phone_library.specs.Lengths.{length_in, local_lengths}
use Rattle.phone_records.specs.declared.loader.Metadata.{Metadata}
use Rattle.phone_engine.specs.Possibilities.{verdict_said}
use Rattle.phone_engine.specs.declared.possibilities.Possibility.TheVariants.{Possible, PossibleLocally, UnknownCode}
use Rattle.phone_engine.proofs.question_laws.valid_is_possible_by_library.Goals as goal

said : (b : Bool) → verdict_said (if b then IsPossibleLocalOnly else IsPossible) ≡ (if b then PossibleLocally else Possible)
said true = refl
said false = refl

pub returns : goal.returns
returns c db n m valid home first ascending =
    ap (λ o. option_map_or (λ (t : Metadata). verdict_said (length_in t (length (text_of n.national)))) o UnknownCode) first
    ∙ ap verdict_said (c.valid_is_possible.ensures.possible db n m valid home ascending)
    ∙ said (list_any (λ l. l == length (text_of n.national)) (local_lengths m))
