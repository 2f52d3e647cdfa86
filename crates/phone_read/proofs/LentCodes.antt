-- What is lent, and what is answered without memory, told of the number that a step began with.
use Rattle.std.proofs.Common.{◌≡◌, ◌⊎◌, inl, inr, ⊎_elim, Option, None, List, Err, ap, ◌∙◌}
use Rattle.phone_values.specs.declared.country.Id.{Id}
use Rattle.phone_values.specs.declared.error.ParseError.{ParseError}
use Rattle.phone_records.specs.declared.loader.Metadata.{Metadata}
use Rattle.phone_parts.specs.Parts.{parts_of}
use Rattle.phone_parts.specs.declared.number.Number.{Number as Parts}
use Rattle.phone_read.proofs.Results.{err_again}
use Rattle.phone_read.specs.CallingCodes.{KeepsLentCode, code_of}
use Rattle.phone_read.specs.WithoutMemory.{AnswersWithoutMemory}

pub keeps_again : (n m r : Parts) → (m.prefix ≡ None → n.prefix ≡ None) → n.carrier ≡ m.carrier → KeepsLentCode n r → KeepsLentCode m r
keeps_again n m r prefix carrier h = record {
  kept = record {
    national = h.kept.national;
    prefix = λ none other. h.kept.prefix (prefix none) other;
    carrier = ⊎_elim (λ same. inl (same ∙ carrier)) (λ lent. inr lent) h.kept.carrier;
  };
  has_prefix = h.has_prefix;
}

-- one refusal, of an answer of another type
pub refused_again : {S T : Type 0} (db : List Metadata) (hint : Option Id) (n : Parts) (e : ParseError) →
    AnswersWithoutMemory {T = S} db hint n (Err e) → AnswersWithoutMemory {T = T} db hint n (Err e)
refused_again {S = S} {T = T} db hint n e h = record {
  refusals = λ none bare. err_again (code_of db hint (parts_of n).national (parts_of n).prefix) _ _ (λ f same. let alike : e ≡ f = cc in ap Err alike) (h.refusals none bare);
  answers = λ none lent plain memory. h.answers none lent plain cc;
}
