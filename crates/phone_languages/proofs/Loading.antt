-- A table of which some lines were taken.
use Rattle.std.proofs.Common.{◌≡◌, ℕ, List, [], ◌∷◌, ◌++◌, refl, sym, ap, subst, ◌∙◌}
use Rattle.std.proofs.lemmas.List.{append-nil, append_assoc}
use Rattle.phone_languages.specs.NameTables.{IsOneMore, IsTable, Refuses, RefusesNext}
use Rattle.phone_languages.specs.NameTables.IsTable.{none, next}
use Rattle.phone_languages.specs.declared.names.Name.{Name}
use Rattle.phone_languages.specs.declared.fault.NamesError.{NamesError}
use Rattle.phone_languages.specs.declared.fault.NamesError.TheVariants as error

-- a text is the lines of names, and what is left
pub record IsSoFar (text rest : List ℕ) (names : List Name) : Type 0 where
  pub before : List ℕ
  pub whole : text ≡ before ++ rest
  pub table : IsTable before names

pub so_far_none : (text : List ℕ) (names : List Name) → names ≡ [] → IsSoFar text text names
so_far_none text names e = subst (IsSoFar text text) (sym e) record {
  before = [];
  whole = refl;
  table = none;
}

-- one more line
pub so_far_next : (text rest : List ℕ) (names : List Name) (line after : List ℕ) (all : List Name) → IsSoFar text rest names → rest ≡ line ++ 10 ∷ after →
    IsOneMore names line all → IsSoFar text after all
so_far_next text rest names line after all s is more = record {
  before = s.before ++ line ++ 10 ∷ [];
  whole = s.whole ∙ ap (λ t. s.before ++ t) is ∙ sym (append_assoc s.before line (10 ∷ after)) ∙ sym (append_assoc (s.before ++ line) (10 ∷ []) after);
  table = next s.before line names all s.table more;
}

-- nothing is left
pub so_far_all : (text rest : List ℕ) (names : List Name) → IsSoFar text rest names → rest ≡ [] → IsTable text names
so_far_all text rest names s nothing = subst (λ t. IsTable t names) (sym (s.whole ∙ ap (λ t. s.before ++ t) nothing ∙ append-nil s.before)) s.table

-- what comes next is refused
pub refuses_next : (text rest : List ℕ) (names : List Name) (e : NamesError) → IsSoFar text rest names → RefusesNext names rest e → Refuses text e
refuses_next text rest names error.NotUtf8 s h = absurd h
refuses_next text rest names (error.Line number what) s h = record {
  before = s.before;
  rest = rest;
  names = names;
  whole = s.whole;
  table = s.table;
  counted = h.0;
  fault = h.1;
}
refuses_next text rest names error.Memory s h = tt
