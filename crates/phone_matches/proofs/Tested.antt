-- The tests of groups, as the code makes them.
use Rattle.std.proofs.Common.{◌≡◌, ℕ, Bool, false, List, [], Option, IfOk, Result, encode_utf8_all, is_some, unwrap_or, ap, ap₂, subst, ◌∙◌}
use Rattle.std.specs.Fmt.{decimal}
use Rattle.std.specs.Option.{option_map_or}
use Rattle.phone_matches.specs.Exact.{digit_runs, is_exact}
use Rattle.phone_matches.specs.Strict.{behind_code, is_strict}
use Rattle.phone_matches.specs.Groupings.{has_grouping, is_grouped, is_prefixed, main_territory, with_digits}
use Rattle.phone_matches.specs.Layouts.{alternates_of}
use Rattle.phone_matches.specs.declared.groupings.Strictness.TheVariants.{Exact, Strict}
use Rattle.phone_records.specs.declared.loader.Format.{Format}
use Rattle.phone_records.specs.declared.loader.Metadata.{Metadata}
use Rattle.phone_values.specs.Numbers.{text_of}
use Rattle.phone_values.specs.declared.reading.Reading.{Reading}

-- what is said of an answer, said of an equal one
pub if_same : {E : Type 0} (r : Result Bool E) (b d : Bool) → b ≡ d → IfOk r (λ x. x ≡ b) → IfOk r (λ x. x ≡ d)
if_same r b d e h = subst (λ (k : Bool). IfOk r (λ x. x ≡ k)) e h

module _ (db alternates : List Metadata) (n : Reading) (t : List ℕ) (m : Option Metadata) (layouts : List Format) (digits : List ℕ)
    (is_m : m ≡ main_territory db n) (are : layouts ≡ alternates_of alternates n.code.value) (is_digits : digits ≡ text_of n.national) where
  pub strict_same : (prefixed : Bool) (all extension text : List ℕ) → prefixed ≡ option_map_or is_prefixed m false → all ≡ text_of n.national →
      extension ≡ unwrap_or n.extension [] → text ≡ behind_code n.code.source (decimal n.code.value) (encode_utf8_all (with_digits t)) →
      has_grouping (is_strict prefixed all extension text) m layouts digits ≡ is_grouped db alternates Strict n t
  strict_same prefixed all extension text p d e x =
      ap₂ (λ (b : Bool) (a : List ℕ). has_grouping (is_strict b a extension text) m layouts digits) p d
      ∙ ap₂ (λ (u : List ℕ) (w : List ℕ). has_grouping (is_strict (option_map_or is_prefixed m false) (text_of n.national) u w) m layouts digits) e x
      ∙ ap₂ (λ (k : Option Metadata) (fs : List Format). has_grouping (is_strict (option_map_or is_prefixed k false) (text_of n.national) (unwrap_or n.extension []) (behind_code n.code.source (decimal n.code.value) (encode_utf8_all (with_digits t)))) k fs digits) is_m are
      ∙ ap (λ (a : List ℕ). has_grouping (is_strict (option_map_or is_prefixed (main_territory db n) false) (text_of n.national) (unwrap_or n.extension []) (behind_code n.code.source (decimal n.code.value) (encode_utf8_all (with_digits t)))) (main_territory db n) (alternates_of alternates n.code.value) a) is_digits

  pub exact_same : (extended : Bool) (all : List ℕ) (runs : List (List ℕ)) → extended ≡ is_some n.extension → all ≡ text_of n.national →
      runs ≡ digit_runs (with_digits t) → has_grouping (is_exact extended all runs) m layouts digits ≡ is_grouped db alternates Exact n t
  exact_same extended all runs e d r =
      ap₂ (λ (b : Bool) (a : List ℕ). has_grouping (is_exact b a runs) m layouts digits) e d
      ∙ ap (λ (rs : List (List ℕ)). has_grouping (is_exact (is_some n.extension) (text_of n.national) rs) m layouts digits) r
      ∙ ap₂ (λ (k : Option Metadata) (fs : List Format). has_grouping (is_exact (is_some n.extension) (text_of n.national) (digit_runs (with_digits t))) k fs digits) is_m are
      ∙ ap (λ (a : List ℕ). has_grouping (is_exact (is_some n.extension) (text_of n.national) (digit_runs (with_digits t))) (main_territory db n) (alternates_of alternates n.code.value) a) is_digits
