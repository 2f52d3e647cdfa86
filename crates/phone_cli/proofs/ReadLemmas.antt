-- Whether a name is one of those that a call reads.
use Rattle.std.proofs.Common.{◌≡◌, ℕ, ◌+◌, ◌<◌, List, [], ◌∷◌, Bool, codes, false, Option, get_or}
use Rattle.std.proofs.Common.{length, map, take}
use Rattle.std.specs.List.{list_any}
use Rattle.std.proofs.lemmas.List.{map-append, take_more}
use Rattle.std.proofs.lemmas.List.Elements.{filter_map-append}
use Rattle.std.proofs.lemmas.List.Folds.{list_any-append}
use Rattle.std.proofs.lemmas.Bool.{false_from_ne_true}
use Rattle.std.proofs.lemmas.Slice.Eq.{bytes_eq-Decides}
use Rattle.std.specs.Str.{bytes_eq}
use Rattle.phone_words.specs.Rows.{Lent, text_in}
use Rattle.phone_cli.specs.Operands.{input_name, named_files, standard_input}

-- one name more, of files that may be named
pub named_more : (p : List ℕ → Bool) (names : List (Option Lent)) (i : ℕ) (d : Option Lent) →
    i < length names → list_any p (named_files (take i names)) ≡ false →
    list_any p (named_files (get_or names i d ∷ [])) ≡ false →
    list_any p (named_files (take (i + 1) names)) ≡ false
named_more p names i d h a b =
    rw (
      take_more names i d h,
      filter_map-append text_in (take i names) (get_or names i d ∷ []),
      list_any-append p (named_files (take i names)) (named_files (get_or names i d ∷ [])),
      a,
      b,
    )

-- one name more, of inputs
pub inputs_more : (p : List ℕ → Bool) (files : List Lent) (i : ℕ) (d : Lent) →
    i < length files → list_any p (map input_name (take i files)) ≡ false →
    p (input_name (get_or files i d)) ≡ false →
    list_any p (map input_name (take (i + 1) files)) ≡ false
inputs_more p files i d h a b =
    rw (
      take_more files i d h,
      map-append input_name (take i files) (get_or files i d ∷ []),
      list_any-append p (map input_name (take i files)) (map input_name (get_or files i d ∷ [])),
      a,
      b,
    )

-- the file that standard input is
pub standard_name : (file : Lent) → file.now ≡ codes "-" → input_name file ≡ standard_input
standard_name file is =
    rw ((bytes_eq-Decides file.now (codes "-")).1 is)

-- the file of another name
pub other_name : (file : Lent) → ¬ (file.now ≡ codes "-") → input_name file ≡ file.now
other_name file not = rw (false_from_ne_true (bytes_eq file.now (codes "-"))
    (λ e. not ((bytes_eq-Decides file.now (codes "-")).0 e)))
