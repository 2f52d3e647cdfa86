-- What the rows of a table were answered, counted.
use Rattle.std.specs.Prelude.{◌≡◌, ◌==◌, ℕ, List, [], ◌∷◌, ◌++◌, flat_map, map}
use Rattle.std.specs.Borrow.{Bor}
use Rattle.std.specs.List.{slice_split}
use Rattle.phone_table.specs.Tallies.{Counted, IsTally, times}
use Rattle.phone_table.specs.declared.summary.Answered.{Answered}
use Rattle.phone_table.specs.declared.summary.Summary.{Summary}

-- texts that are lent
abbrev pub texts_in : List (Bor (List ℕ)) → List (List ℕ)
texts_in texts = map (λ (t : Bor (List ℕ)). t.now) texts

-- the words of a text, parted by spaces
abbrev pub words : List ℕ → List (List ℕ)
words text = slice_split (λ c. c == 32) text

-- what a row was answered, as far as a summary tells it: the type of the number, its region, the
-- words of the refusal, and those of what is suspicious
pub record Row : Type 0 where
  pub kind : List ℕ
  pub region : List ℕ
  pub refusal : List ℕ
  pub suspicion : List ℕ

-- the same, of texts that are lent
abbrev pub row_of : Answered → Row
row_of a = record {
  kind = a.kind.now;
  region = a.region.now;
  refusal = a.refusal.now;
  suspicion = a.suspicion.now;
}

-- each text is counted as often as rows have it, and each word of what is suspicious
pub record IsSummary (rows : List Row) (s : Summary) : Type 0 where
  pub kinds : IsTally (map (λ (r : Row). r.kind) rows) s.kinds
  pub regions : IsTally (map (λ (r : Row). r.region) rows) s.regions
  pub refusals : IsTally (map (λ (r : Row). r.refusal) rows) s.refusals
  pub suspicions : IsTally (flat_map (λ (r : Row). words r.suspicion) rows) s.suspicions

-- no text was counted yet
abbrev pub IsNew : Counted → Type 0
IsNew tally = (text : List ℕ) → times tally text ≡ 0

-- a summary of no rows
pub record IsEmpty (s : Summary) : Type 0 where
  pub kinds : IsNew s.kinds
  pub regions : IsNew s.regions
  pub refusals : IsNew s.refusals
  pub suspicions : IsNew s.suspicions

-- a summary of some rows becomes one of these and this row
abbrev pub CountsRow : Summary → Row → Summary → Type 0
CountsRow before row after =
    (rows : List Row) → IsSummary rows before → IsSummary (rows ++ row ∷ []) after
