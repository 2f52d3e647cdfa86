use Rattle.std.proofs.Common.{◌≡◌, Bool, Option, ap, ap₂, ◌∙◌}
use Rattle.phone_values.specs.declared.country.Id.{Id}
use Rattle.phone_values.specs.declared.kind.«Type».{«Type»}
use Rattle.phone_read.specs.Kinds.{is_known}
use Rattle.phone_library.specs.declared.queries.NumberFacts.{NumberFacts}
use Rattle.phone_library.proofs.queries.facts_in.Goals as goal

-- facts with equal parts
abbrev facts_of : Option Id → «Type» → Bool → NumberFacts
facts_of region kind is_valid = record { region = region; kind = kind; is_valid = is_valid }

same_facts : (r s : Option Id) (k l : «Type») (v : Bool) → r ≡ s → k ≡ l → v ≡ is_known k → facts_of r k v ≡ facts_of s l (is_known l)
same_facts r s k l v region kind valid = ap (facts_of r k) valid ∙ ap₂ (λ r k. facts_of r k (is_known k)) region kind

pub returns : goal.returns
returns c = same_facts _ _ _ _ _ c.in_ok-region.ensures.region c.in_ok-region.ensures.kind c.is_known.ensures
