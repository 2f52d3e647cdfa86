-- A record has one answer.
use Rattle.std.proofs.Common.{◌≡◌, inl, inr, ℕ, List, ◌++◌}
use Rattle.std.proofs.Common.{Option, None, Some, refl, sym, ap, ap₂, subst, ◌∙◌}
use Rattle.phone_values.specs.declared.country.Id.{Id}
use Rattle.phone_values.specs.declared.reading.Reading.{Reading}
use Rattle.phone_values.specs.declared.rules.Rules.{Rules}
use Rattle.phone_places.specs.declared.countries.Entry.{Entry as Name}
use Rattle.phone_csv.specs.Formats.{Record}
use Rattle.phone_records.specs.declared.loader.Metadata.{Metadata}
use Rattle.phone_table.specs.Answers.{IsAnswer, IsAnswerUnder, IsOwnAnswer, IsUnder, countries_of, short_of}
use Rattle.phone_answers.specs.Extras.{AreTold, EachHasOneText}
use Rattle.phone_table.specs.Regions.{RecordNames, RegionText, TextOf, field_in, hint_under, named_by}
use Rattle.phone_table.specs.declared.header.Columns.{Columns}
use Rattle.phone_table.specs.declared.region.Named.{Named}
use Rattle.phone_table.specs.declared.run.Asked.{Asked}
use Rattle.phone_answers.proofs.OneAnswers.{AreSame, one_field_answer}
use Rattle.phone_answers.proofs.OneTold.{all_told_same}

-- a record names one region, or none
text_of_same : (field : List ℕ) (r s : Option (List ℕ)) → TextOf field r → TextOf field s → r ≡ s
text_of_same field None None h g = refl
text_of_same field None (Some t) h g = absurd (h g.0)
text_of_same field (Some t) None h g = absurd (g h.0)
text_of_same field (Some t) (Some u) h g = ap Some (h.1 ∙ sym g.1)

text_same : (fields : Record) (o : Option ℕ) (r s : Option (List ℕ)) → RegionText fields o r → RegionText fields o s → r ≡ s
text_same fields None r s h g = h ∙ sym g
text_same fields (Some column) r s h g = text_of_same (field_in fields column) r s h g

region_same : (names : Option (List Name)) (db : List Metadata) (fields : Record) (o : Option ℕ) (r s : Named) → RecordNames names db o fields r →
    RecordNames names db o fields s → r ≡ s
region_same names db fields o r s (t, is, e) (u, is', f) = e ∙ ap (named_by names db) (text_same fields o t u is is') ∙ sym f

-- a record is read under one hint, if it is
pub hint_same : (db : List Metadata) (hint : Option Id) (columns : Columns) (asked : Asked) (fields : Record) (u v : Option (Option Id)) → IsUnder db hint columns asked fields u →
    IsUnder db hint columns asked fields v → u ≡ v
hint_same db hint columns asked fields u v (inl (w, r, named, e)) (inl (x, s, named', f)) =
    e ∙ ap (hint_under asked.else_hint hint) (region_same (countries_of asked) db fields columns.region r s named named') ∙ sym f
hint_same db hint columns asked fields u v (inl (w, r, named, e)) (inr (other, f)) = absurd (other w)
hint_same db hint columns asked fields u v (inr (other, e)) (inl (w, r, named, f)) = absurd (other w)
hint_same db hint columns asked fields u v (inr (other, e)) (inr (more, f)) = e ∙ sym f

module _ (rules : Rules) (db : List Metadata) where
  module _ (columns : Columns) (asked : Asked) (fields : Record) where
    -- under one hint a field has one answer, and without one
    under_same : (o : Option (Option Id)) (field : List ℕ) (n k : Option Reading) (a b : Record) →
        IsAnswerUnder rules db (short_of asked) o field n a →
        IsAnswerUnder rules db (short_of asked) o field k b → AreSame n k a b
    under_same None field n k a b h g = (h.0 ∙ sym g.0, h.1 ∙ sym g.1)
    under_same (Some own) field n k a b h g =
        one_field_answer rules db (short_of asked) own field n k a b h g

    -- a record has one answer of its own, whose fields are of one number or of none
    pub own_same : (under : Option (Option Id)) (n k : Option Reading) (a b : Record) →
        IsOwnAnswer rules db columns asked fields under n a →
        IsOwnAnswer rules db columns asked fields under k b → AreSame n k a b
    own_same under n k a b (inl (w, h)) (inl (v, g)) = under_same under (field_in fields columns.number) n k a b h g
    own_same under n k a b (inl (w, h)) (inr (e, g)) = absurd (g.1 w)
    own_same under n k a b (inr (e, h)) (inl (v, g)) = absurd (h.1 v)
    own_same under n k a b (inr (e, h)) (inr (f, g)) = (e ∙ sym f, h.2 ∙ sym g.2)

    -- and one answer
    pub answer_same : (hint : Option Id) (a b : Record) → EachHasOneText asked.extra.now →
        IsAnswer rules db hint columns asked fields a →
        IsAnswer rules db hint columns asked fields b → a ≡ b
    answer_same hint a b one (n, (u, told, own, by, is, are, e)) (k, (v, told', own', by', is', are', f)) =
        let read = field_in fields columns.number in
        let under = hint_same db hint columns asked fields u v by by' in
        let same = own_same v n k own own' (subst (λ x. IsOwnAnswer rules db columns asked fields x n own) under is) is' in
        e ∙ ap₂ (λ x y. x ++ y) (all_told_same rules db v read k asked.extra.now told told' one
        (subst (λ x. AreTold rules db v read x asked.extra.now told) same.0 (subst (λ x. AreTold rules db x read n asked.extra.now told) under are)) are') same.1 ∙ sym f
