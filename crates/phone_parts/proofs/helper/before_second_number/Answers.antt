use Rattle.std.proofs.Common.{rules, refl, ◌≡◌, ℕ, ◌<◌, false, [], ◌∷◌, ◌++◌, length, drop, encode_utf8, append_assoc, append-nil, inl, inr, ap, ◌∙◌, sym, subst}
use Rattle.std.proofs.lemmas.List.{append_cancel_right}
use Rattle.std.proofs.lemmas.Str.{chars-nil}
use Rattle.std.specs.Str.{chars}
use Rattle.phone_parts.specs.Cores.{begins_second_number}
use Rattle.phone_parts.proofs.Borders.{borders_more}
use Rattle.phone_parts.proofs.helper.before_second_number.Goals as goal

pub loop-after-preserved : goal.loop-after-preserved
loop-after-preserved c =
    let v = c.loop-after.invariant.1 in
    let i = c.loop-after.invariant.2 in
    let x = c.in-Some.field-0-0 in (
      search rules,
      (v.0 ++ encode_utf8 x, rw (v.1, c.in-Some.ensures.cut) (sym (append_assoc v.0 _ _))),
      (
        i.0 ++ x ∷ [],
        i.1 ∙ ap (λ t. i.0 ++ t) c.in-Some.ensures.read ∙ sym (append_assoc i.0 (x ∷ []) (chars c.in-Some.after.now)),
        borders_more (λ t. begins_second_number t ≡ false) (chars c.args.text.now) i.0 (chars c.loop-after.rest.now) x i.1 i.2
            (sym c.is_second_number.ensures ∙ c.if-is_second_number.false),
      ),
    )

pub returns-then-is_second_number-clause-read : goal.returns-then-is_second_number-clause-read
returns-then-is_second_number-clause-read c =
    let i = c.loop-after.invariant.2 in
    let first = chars c.before-then-is_second_number.result.now in
    let rest = chars c.loop-after.rest.now in
    let same : i.0 ≡ first = append_cancel_right i.0 first rest (sym i.1 ∙ c.before-then-is_second_number.ensures.read c.loop-after.invariant.1) in
    record {
      after = rest;
      whole = c.before-then-is_second_number.ensures.read c.loop-after.invariant.1;
      ended = inr (sym c.is_second_number.ensures ∙ c.if-is_second_number.true);
      earliest = subst (λ t. (k : ℕ) → k < length t → begins_second_number (drop k (chars c.args.text.now)) ≡ false) same i.2;
    }

pub returns-clause-read : goal.returns-clause-read
returns-clause-read c =
    let i = c.loop-after.invariant.2 in
    let all : i.0 ≡ chars c.args.text.now = sym (i.1 ∙ ap (λ t. i.0 ++ chars t) c.in_default.ensures.cut ∙ ap (λ t. i.0 ++ t) chars-nil ∙ append-nil i.0) in
    record {
      after = [];
      whole = sym (append-nil _);
      ended = inl refl;
      earliest = subst (λ t. (k : ℕ) → k < length t → begins_second_number (drop k (chars c.args.text.now)) ≡ false) all i.2;
    }
