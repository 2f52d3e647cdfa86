use Rattle.std.proofs.Common.{ℕ, ◌∷◌, [], ◌++◌, List, encode_utf8, rules, append_assoc, ap, sym, subst, ◌∙◌, true≢false}
use Rattle.std.proofs.lemmas.List.Folds.{list_all-append}
use Rattle.std.proofs.lemmas.Str.{chars-nil}
use Rattle.std.specs.Str.{chars}
use Rattle.phone_parts.specs.Suffixes.{IsAnnounced, IsIndicated, IsSomeEnding, is_lead, indicators}
use Rattle.phone_parts.proofs.Longest.{up_to_of_end}
use Rattle.phone_parts.proofs.Slices.{slice_of_end}
use Rattle.phone_parts.proofs.Starts.{indicated_rest, not_indicated_nil}
use Rattle.phone_parts.proofs.suffix.indicated_digits.Goals as goal

pub returns-in-Some-announced_digits-clause-read : goal.returns-in-Some-announced_digits-clause-read
unfolding chars
returns-in-Some-announced_digits-clause-read c =
    let i = c.loop-c.invariant.2 in
    record {
      lead = i.0;
      rest = chars c.loop-c.rest.now;
      whole = i.1;
      leads = i.2;
      announced = c.in-Some-announced_digits.ensures.read;
    }

pub returns-in-Some-announced_digits-clause-slice : goal.returns-in-Some-announced_digits-clause-slice
returns-in-Some-announced_digits-clause-slice c =
    let v = c.loop-c.invariant.1 in
    slice_of_end c.args.text.now v.0 c.loop-c.rest.now c.in-Some-announced_digits.digits.now v.1 c.in-Some-announced_digits.ensures.slice

pub returns-then-not-is_lead-clause-read : goal.returns-then-not-is_lead-clause-read
unfolding chars
returns-then-not-is_lead-clause-read c = λ d h.
    let rest = chars c.loop-c.rest.now in
    let none : (e : List ℕ) → ¬ (IsAnnounced indicators rest e) = c.in_default-announced_digits.ensures.read in
    let next = indicated_rest rest d c.in-Some.c (chars c.in-Some.after.now) (c.loop-c.invariant.3 d h) c.in-Some.ensures.read (none d) in
    true≢false (sym next.0 ∙ sym c.is_lead.ensures ∙ c.if-not-is_lead.true)

pub loop-c-preserved : goal.loop-c-preserved
unfolding chars
loop-c-preserved c =
    let v = c.loop-c.invariant.1 in
    let i = c.loop-c.invariant.2 in
    let x = c.in-Some.c in
    let rest = chars c.loop-c.rest.now in
    let after = chars c.in-Some.after.now in
    let none : (e : List ℕ) → ¬ (IsAnnounced indicators rest e) = c.in_default-announced_digits.ensures.read in (
      search rules,
      (v.0 ++ encode_utf8 x, rw (v.1, c.in-Some.ensures.cut) (sym (append_assoc v.0 _ _))),
      (
        i.0 ++ x ∷ [],
        i.1 ∙ ap (λ t. i.0 ++ t) c.in-Some.ensures.read ∙ sym (append_assoc i.0 (x ∷ []) after),
        list_all-append is_lead i.0 (x ∷ []) ∙ rw (i.2, ← c.is_lead.ensures, c.if-not-is_lead.false),
      ),
      (λ d h. (indicated_rest rest d x after (c.loop-c.invariant.3 d h) c.in-Some.ensures.read (none d)).1),
    )

pub returns-clause-read : goal.returns-clause-read
returns-clause-read c = λ d h.
    not_indicated_nil d (subst (λ t. IsIndicated t d) (ap chars c.in_default.ensures.cut ∙ chars-nil) (c.loop-c.invariant.3 d h))

pub announced_digits-requires : goal.announced_digits-requires
announced_digits-requires c =
    let v = c.loop-c.invariant.1 in
    up_to_of_end IsSomeEnding c.args.limit c.args.text.now v.0 c.loop-c.rest.now v.1 c.requires
