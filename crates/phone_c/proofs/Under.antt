-- What is so by an engine is so under the hint that it was made of, as C gives it.
use Rattle.std.proofs.Common.{◌≡◌, ℕ, List, Option, Some, IsSomeAnd, sym, subst}
use Rattle.phone_values.specs.declared.country.Id.{Id}
use Rattle.phone_values.specs.declared.rules.Rules.{Rules}
use Rattle.phone_records.specs.declared.loader.Metadata.{Metadata}
use Rattle.phone_engine.specs.declared.engine.Engine.{Engine}
use Rattle.phone_c_base.specs.Hints.{UnderHint, hint_of}

module _ (IsSo : Rules → List Metadata → Option Id → Type 0) (e : Engine) where
  pub under : (bytes : List ℕ) (rules : Rules) (db : List Metadata) →
      hint_of bytes ≡ Some e.hint → e.rules ≡ rules → e.database.now ≡ db →
      IsSo e.rules e.database.now e.hint → UnderHint bytes (λ h. IsSo rules db h)
  under bytes rules db hinted by of is =
      let by_them = subst (λ (r : Rules). IsSo r e.database.now e.hint) by is in
      let of_it = subst (λ (d : List Metadata). IsSo rules d e.hint) of by_them in
      let IsSoUnder = λ (o : Option (Option Id)). IsSomeAnd o (λ h. IsSo rules db h) in
      subst IsSoUnder (sym hinted) of_it
