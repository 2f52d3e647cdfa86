-- Digits laid out match by match.
use Rattle.std.proofs.Common.{◌≡◌, ℕ, zero, suc, ◌==◌, false, List, ◌++◌, drop, Option, None, Some, option_map, refl, ap, sym, ◌∙◌}
use Rattle.std.proofs.lemmas.Bool.{ne_eqb}
use Rattle.phone_matches.specs.Layouts.{laid_each, laid_first}
use Rattle.phone_matches_text.proofs.Ends.{before_end_front}
use Rattle.phone_matches_text.specs.Shapes.{before_end}
use Rattle.phone_pattern.specs.First.{Seen, first_match, first_span, names_in, with_first_replaced}
use Rattle.phone_records.specs.declared.loader.Format.{Format}
use Rattle.phone_territory.specs.Layouts.{laid_by, layout_pattern, layout_template}

-- what a match is replaced by stands before what follows it
second_same : (p q : ℕ × ℕ) → Some p ≡ Some q → p.1 ≡ q.1
second_same p q e = let same : p ≡ q = cc in ap (λ (r : ℕ × ℕ). r.1) same

cut_at : (u digits : List ℕ) (x b : ℕ) → x ≡ b → (v : List ℕ) × (u ++ drop x digits ≡ v ++ drop b digits)
cut_at u digits x b e = (u, ap (λ n. u ++ drop n digits) e)

replaced_cut : (pattern template digits : List ℕ) (m : Option Seen) (a b : ℕ) → option_map {U = ℕ × ℕ} (λ (s : Seen). (s.0, s.1)) m ≡ Some (a, b) →
    (v : List ℕ) × (with_first_replaced (names_in pattern) template digits m ≡ v ++ drop b digits)
replaced_cut pattern template digits None a b e = absurd (cc)
replaced_cut pattern template digits (Some s) a b e = cut_at _ digits s.1 b (second_same (s.0, s.1) (a, b) e)

pub laid_cut : (f : Format) (digits : List ℕ) (a b : ℕ) → Some (a, b) ≡ first_span (layout_pattern f) digits →
    (v : List ℕ) × (laid_by f (layout_template f) digits ≡ v ++ drop b digits)
laid_cut f digits a b e =
    replaced_cut (layout_pattern f) (layout_template f) digits (first_match (layout_pattern f) digits) a b (sym e)

-- no match, an empty front, or a front that is laid out
pub first_none : (f : Format) (digits : List ℕ) → None ≡ first_span (layout_pattern f) digits → None ≡ laid_first f digits
first_none f digits e = rw (← e) refl

pub first_empty : (f : Format) (digits : List ℕ) (a b : ℕ) → Some (a, b) ≡ first_span (layout_pattern f) digits → b ≡ 0 → None ≡ laid_first f digits
first_empty f digits a b e z = rw (← e, z) refl

pub first_some : (f : Format) (digits : List ℕ) (a b : ℕ) (laid rest : List ℕ) → Some (a, b) ≡ first_span (layout_pattern f) digits → (b == 0) ≡ false →
    rest ≡ drop b digits → laid ≡ before_end (laid_by f (layout_template f) digits) rest → Some (laid, rest) ≡ laid_first f digits
first_some f digits a b laid rest e some r l = rw (← e, some, l, r) refl

-- a front that is laid out, where a text is cut where the rest begins
pub laid_front : (f : Format) (digits whole laid rest : List ℕ) (a b : ℕ) → Some (a, b) ≡ first_span (layout_pattern f) digits → ¬ (b ≡ 0) →
    rest ≡ drop b digits → whole ≡ laid_by f (layout_template f) digits → ((v : List ℕ) → whole ≡ v ++ rest → laid ≡ v) → Some (laid, rest) ≡ laid_first f digits
laid_front f digits whole laid rest a b e some r w front =
    let cut = laid_cut f digits a b e in
    let is : laid_by f (layout_template f) digits ≡ cut.0 ++ rest = cut.1 ∙ ap (λ (t : List ℕ). cut.0 ++ t) (sym r) in
    first_some f digits a b laid rest e (ne_eqb b 0 some) r
    (front cut.0 (w ∙ is) ∙ sym (before_end_front (laid_by f (layout_template f) digits) cut.0 rest is))

-- one more match
pub each_more : (n left : ℕ) (f : Format) (digits laid rest : List ℕ) → left ≡ suc n → Some (laid, rest) ≡ laid_first f digits →
    laid_each left f digits ≡ laid ++ laid_each n f rest
each_more n left f digits laid rest e h = rw (e, ← h) refl

-- no more
pub each_none : (left : ℕ) (f : Format) (digits : List ℕ) → None ≡ laid_first f digits → laid_each left f digits ≡ digits
each_none zero f digits h = refl
each_none (suc n) f digits h = rw (← h) refl

pub each_spent : (left : ℕ) (f : Format) (digits : List ℕ) → left ≡ 0 → laid_each left f digits ≡ digits
each_spent left f digits e = rw e refl
