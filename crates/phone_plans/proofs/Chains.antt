-- A chain over the territories of a code, of which a closure passes some.
use Rattle.std.proofs.Common.{◌≡◌, ℕ, ◌&&◌, Bool, Bor, List, filter, subst}
use Rattle.std.proofs.lemmas.Iterator.{YieldsList}
use Rattle.std.proofs.lemmas.Iterator.Consumers.{YieldsList-from_filter, YieldsList-from_first}
use Rattle.std.specs.Fn.{CalledAt}
use Rattle.std.specs.Iterator.{YieldsFirstBy}
use Rattle.std.specs.Iterator.Adapters.{filter_callee, filter_source, filter_steps}
use Rattle.std.specs.declared.iter.Filter.{Filter}
use Rattle.phone_plans.specs.Records.{has_code}
use Rattle.phone_records.specs.declared.loader.Metadata.{Metadata}
use Rattle.phone_plans.proofs.CodeLemmas.{filter-filter}
use denote.Param.Members.{Mut}

-- what a borrowed territory shows
abbrev pub shown : Bor Metadata → Metadata
shown t = t.now

-- what such a chain yields
pub YieldsList-of_code : {F : Type 0} {g : Mut F (Bor (Bor Metadata) × Unit {0}) Bool} {f : F} {s : Filter (List Metadata) F} (code : ℕ) (db : List Metadata) (test : Metadata → Bool) →
    filter_source s ≡ filter (has_code code) db → filter_callee s ≡ f → ((x : Bor Metadata) (b : Bool) (q : F) → CalledAt g f x b q → (q ≡ f) × (b ≡ test x.now)) →
    YieldsList (filter_steps (YieldsFirstBy shown (λ (ms : List Metadata). ms)) g) shown s (filter (λ m. has_code code m && test m) db)
YieldsList-of_code {g} {s} code db test source callee tested =
    subst (YieldsList (filter_steps (YieldsFirstBy shown (λ (ms : List Metadata). ms)) g) shown s) (filter-filter (has_code code) test db)
    (YieldsList-from_filter g test (YieldsList-from_first shown (λ (ms : List Metadata). ms) (filter (has_code code) db) source) callee tested)
