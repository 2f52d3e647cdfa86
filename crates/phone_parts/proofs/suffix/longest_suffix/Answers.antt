use Rattle.std.proofs.Common.{◌≡◌, ℕ, ◌<◌, ◌≤◌, ◌∷◌, [], ◌++◌, List, length, length-drop, drop, encode_utf8, rules, append_assoc, append-nil, ⊎_elim, ap, sym, subst, ◌∙◌, true≢false, arith}
use Rattle.std.proofs.lemmas.Bool.{cases_lt}
use Rattle.std.proofs.lemmas.List.{append_cancel_right, nil_from_length}
use Rattle.std.proofs.lemmas.Str.{chars-nil}
use Rattle.std.specs.Str.{chars}
use Rattle.phone_parts.specs.Suffixes.{IsSomeEnding, IsSomeNumberSigned, IsSuffix}
use Rattle.phone_parts.specs.declared.suffix.Form.{Form}
use Rattle.phone_parts.specs.declared.suffix.Form.TheVariants.{Indicated}
use Rattle.phone_parts.proofs.Borders.{borders_more}
use Rattle.phone_parts.proofs.Longest.{up_to_of_end, within_of_end}
use Rattle.phone_parts.proofs.Slices.{slice_of_end}
use Rattle.phone_parts.proofs.Starts.{suffix_begins, not_indicated_after_lead}
use Rattle.phone_parts.proofs.suffix.longest_suffix.Goals as goal

pub returns-in-Some-read_suffix-clause-slice : goal.returns-in-Some-read_suffix-clause-slice
returns-in-Some-read_suffix-clause-slice c =
    let v = c.loop-c.invariant.1 in
    slice_of_end c.args.text.now v.0 c.loop-c.rest.now c.in-Some-read_suffix.digits.now v.1 c.in-Some-read_suffix.ensures.slice

pub returns-in-Some-read_suffix-clause-read : goal.returns-in-Some-read_suffix-clause-read
returns-in-Some-read_suffix-clause-read c =
    let i = c.loop-c.invariant.2 in
    let text = chars c.args.text.now in
    let rest = chars c.loop-c.rest.now in
    let first = chars c.before-in-Some-read_suffix.result.now in
    let same : i.0 ≡ first = append_cancel_right i.0 first rest (sym i.1 ∙ c.before-in-Some-read_suffix.ensures.read c.loop-c.invariant.1) in
    record {
      suffix = rest;
      whole = c.before-in-Some-read_suffix.ensures.read c.loop-c.invariant.1;
      is_suffix = c.in-Some-read_suffix.ensures.read;
      longest = λ k f d less. subst (λ t. (j : ℕ) → j < length t → (g : Form) (e : List ℕ) → ¬ (IsSuffix (drop j text) g e)) same i.2 k less f d;
    }

pub loop-c-preserved : goal.loop-c-preserved
loop-c-preserved c =
    let v = c.loop-c.invariant.1 in
    let i = c.loop-c.invariant.2 in
    let x = c.in-Some.c in (
      search rules,
      (v.0 ++ encode_utf8 x, rw (v.1, c.in-Some.ensures.cut) (sym (append_assoc v.0 _ _))),
      (
        i.0 ++ x ∷ [],
        i.1 ∙ ap (λ t. i.0 ++ t) c.in-Some.ensures.read ∙ sym (append_assoc i.0 (x ∷ []) (chars c.in-Some.after.now)),
        borders_more (λ t. (f : Form) (d : List ℕ) → ¬ (IsSuffix t f d)) (chars c.args.text.now) i.0 (chars c.loop-c.rest.now) x i.1 i.2 c.in_default-read_suffix.ensures.read,
      ),
      (λ e. not_indicated_after_lead (chars c.loop-c.rest.now) (chars c.in-Some.after.now) x c.in-Some.ensures.read (sym c.is_lead-in_lead.ensures ∙ e) (c.in_default-read_suffix.ensures.read Indicated)),
    )

pub returns-clause-read : goal.returns-clause-read
returns-clause-read c = λ k f d h.
    let text = chars c.args.text.now in
    let i = c.loop-c.invariant.2 in
    let all : i.0 ≡ text = sym (i.1 ∙ ap (λ t. i.0 ++ chars t) c.in_default.ensures.cut ∙ ap (λ t. i.0 ++ t) chars-nil ∙ append-nil i.0) in
    ⊎_elim
    (λ (less : k < length text). subst (λ t. (j : ℕ) → j < length t → (g : Form) (e : List ℕ) → ¬ (IsSuffix (drop j text) g e)) all i.2 k less f d h)
    (λ (more : length text ≤ k).
    let nil : drop k text ≡ [] = nil_from_length (drop k text) (omega (arith, length-drop k text)) in
    true≢false (sym (suffix_begins [] f d (subst (λ t. IsSuffix t f d) nil h))))
    (cases_lt k (length text))

pub read_suffix-requires-clause-ending : goal.read_suffix-requires-clause-ending
read_suffix-requires-clause-ending c =
    let v = c.loop-c.invariant.1 in
    up_to_of_end IsSomeEnding _ c.args.text.now v.0 c.loop-c.rest.now v.1 c.ending_limit.ensures

pub read_suffix-requires-clause-number_sign : goal.read_suffix-requires-clause-number_sign
read_suffix-requires-clause-number_sign c =
    let v = c.loop-c.invariant.1 in
    within_of_end IsSomeNumberSigned _ c.args.text.now v.0 c.loop-c.rest.now v.1 c.number_sign_limit.ensures.longest
