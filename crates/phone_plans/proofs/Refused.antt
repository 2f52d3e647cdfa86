-- A pattern of one of the records, or the pattern beside theirs, is refused as one of the database's.
use Rattle.std.proofs.Common.{MatchOption, inl, ◌≡◌, List, [], ◌∷◌, None, subst, sym}
use Rattle.std.specs.List.{flat_map}
use Rattle.phone_records.specs.Missing.{first_missing}
use Rattle.phone_pattern.specs.Rules.{first_group_pattern}
use Rattle.phone_territory.specs.Refusals.{IsPatternRefusal, patterns_in}
use Rattle.phone_plans.specs.Refusals.{IsRefusalOf, TellsMissing, patterns}
use Rattle.phone_pattern.proofs.Refused.{ArePatterns, refused-left, refused-right}
use Rattle.phone_base.specs.declared.error.LoadMetadata.{LoadMetadata}
use Rattle.phone_records.specs.declared.loader.Metadata.{Metadata}

-- where nothing is missing and the records' own are patterns, records are refused for the pattern that stands beside theirs
pub refused-first_group : (db : List Metadata) (e : LoadMetadata) → first_missing db ≡ None → ArePatterns (flat_map patterns_in db) → IsPatternRefusal (first_group_pattern ∷ []) e → IsRefusalOf db e
refused-first_group db e none are h =
    inl (subst (λ o. MatchOption o (IsPatternRefusal (patterns db) e) (λ missing. TellsMissing missing e)) (sym none)
    (refused-right (flat_map patterns_in db) (first_group_pattern ∷ []) e are h))

-- where nothing is missing, records are refused for one of their own patterns
pub refused-territories : (db : List Metadata) (e : LoadMetadata) → first_missing db ≡ None → IsPatternRefusal (flat_map patterns_in db) e → IsRefusalOf db e
refused-territories db e none h =
    inl (subst (λ o. MatchOption o (IsPatternRefusal (patterns db) e) (λ missing. TellsMissing missing e)) (sym none)
    (refused-left (flat_map patterns_in db) (first_group_pattern ∷ []) e h))
