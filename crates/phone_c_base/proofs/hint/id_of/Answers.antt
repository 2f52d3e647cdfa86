use Rattle.std.proofs.Common.{ℕ, List, get_or, true, false, sym, ap, ◌∙◌}
use Rattle.std.specs.Str.{bytes_eq}
use Rattle.phone_values.specs.declared.country.Id.TheVariants.{AC}
use Rattle.phone_values.specs.declared.country.TheConstants.{ALL}
use Rattle.phone_c_base.proofs.IdsByPlace.{told-id_of}
use Rattle.phone_c_base.proofs.hint.id_of.Goals as goal

pub returns-then-eq : goal.returns-then-eq
returns-then-eq c =
    let bytes = c.args.bytes.now in
    told-id_of bytes c.id_at-id.result true (c.id_at-id.ensures ∙ ap (λ p. get_or ALL p AC) c.place_of.ensures)
    (sym c.if-eq.true ∙ c.eq.ensures ∙ ap (λ (t : List ℕ). bytes_eq t bytes) (c.as_bytes.ensures.value ∙ c.as_str.ensures))

pub returns-else-eq : goal.returns-else-eq
returns-else-eq c =
    let bytes = c.args.bytes.now in
    told-id_of bytes c.id_at-id.result false (c.id_at-id.ensures ∙ ap (λ p. get_or ALL p AC) c.place_of.ensures)
    (sym c.if-eq.false ∙ c.eq.ensures ∙ ap (λ (t : List ℕ). bytes_eq t bytes) (c.as_bytes.ensures.value ∙ c.as_str.ensures))
