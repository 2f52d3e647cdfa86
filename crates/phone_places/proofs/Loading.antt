-- A table of which some lines were taken.
use Rattle.std.proofs.Common.{◌≡◌, ℕ, List, [], ◌∷◌, ◌++◌, refl, sym, ap, subst, ◌∙◌, arith}
use Rattle.std.proofs.lemmas.List.{append-nil, append_assoc}
use Rattle.phone_places.specs.Tables.{IsOneMore, IsTable, Refuses, RefusesNext, Rises}
use Rattle.phone_places.specs.Tables.IsTable.{none, next}
use Rattle.phone_places.specs.declared.countries.Entry.{Entry}
use Rattle.phone_places.specs.declared.fault.CountriesError.{CountriesError}
use Rattle.phone_places.specs.declared.fault.CountriesError.TheVariants as error
use Rattle.phone_places.proofs.Rising.{Rises-push}

-- a text is the lines of entries, and what is left
pub record IsSoFar (text rest : List ℕ) (entries : List Entry) : Type 0 where
  pub before : List ℕ
  pub whole : text ≡ before ++ rest
  pub table : IsTable before entries
  pub rises : Rises entries

pub so_far_none : (text : List ℕ) (entries : List Entry) → entries ≡ [] → IsSoFar text text entries
so_far_none text entries e = subst (IsSoFar text text) (sym e) record {
  before = [];
  whole = refl;
  table = none;
  rises = λ i j d h g. absurd (omega (arith, g));
}

-- one more line
pub so_far_next : (text rest : List ℕ) (entries : List Entry) (line after : List ℕ) (all : List Entry) → IsSoFar text rest entries → rest ≡ line ++ 10 ∷ after →
    IsOneMore entries line all → IsSoFar text after all
so_far_next text rest entries line after all s is more = record {
  before = s.before ++ line ++ 10 ∷ [];
  whole = s.whole ∙ ap (λ t. s.before ++ t) is ∙ sym (append_assoc s.before line (10 ∷ after)) ∙ sym (append_assoc (s.before ++ line) (10 ∷ []) after);
  table = next s.before line entries all s.table more;
  rises = subst Rises (sym more.whole) (Rises-push entries more.entry s.rises more.above);
}

-- nothing is left
pub so_far_all : (text rest : List ℕ) (entries : List Entry) → IsSoFar text rest entries → rest ≡ [] → IsTable text entries
so_far_all text rest entries s nothing = subst (λ t. IsTable t entries) (sym (s.whole ∙ ap (λ t. s.before ++ t) nothing ∙ append-nil s.before)) s.table

-- what comes next is refused
pub refuses_next : (text rest : List ℕ) (entries : List Entry) (e : CountriesError) → IsSoFar text rest entries → RefusesNext entries rest e → Refuses text e
refuses_next text rest entries error.NotUtf8 s h = absurd h
refuses_next text rest entries (error.Line number what) s h = record {
  before = s.before;
  rest = rest;
  entries = entries;
  whole = s.whole;
  table = s.table;
  counted = h.0;
  fault = h.1;
}
refuses_next text rest entries error.Memory s h = tt
