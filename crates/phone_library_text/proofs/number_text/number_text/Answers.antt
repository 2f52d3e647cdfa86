use Rattle.std.proofs.Common.{Result, Ok, Err, IfOk, ap, sym, subst, arith, ◌∙◌}
use Rattle.std.specs.Str.{chars}
use Rattle.phone_parts.proofs.Patterns.{contains-list_any}
use Rattle.phone_library_text.specs.NumberTexts.{HasNumberText}
use Rattle.phone_library_text.specs.Places.{before_first, parted}
use Rattle.phone_library_text.proofs.Literals.{chars-context, chars-semicolon}
use Rattle.phone_library_text.proofs.number_text.number_text.Goals as goal

weaker : {V E : Type 0} (P Q : V → Type 0) (r : Result V E) → ((v : V) → P v → Q v) → IfOk r P → IfOk r Q
weaker P Q (Ok v) f h = f v h
weaker P Q (Err e) f h = h

pub returns-then-not-contains : goal.returns-then-not-contains
returns-then-not-contains c =
    let text = c.args.text.now in
    subst (HasNumberText (chars text)) (sym c.lend.ensures)
    (c.plain_text.ensures (sym (contains-list_any 59 text c.contains.result (omega arith) c.utf8.text c.contains.ensures.cases) ∙ c.if-not-contains.true))

pub returns-in-Some : goal.returns-in-Some
returns-in-Some c =
    let text = chars c.args.text.now in
    let after = chars c.in-Some.after.now in
    weaker _ _ c.with_context.result
    (λ n h. h after (ap (λ w. parted w text) (sym chars-context) ∙ c.in-Some.ensures.parted) (c.before_first.ensures ∙ ap (λ w. before_first w after) chars-semicolon))
    c.with_context.ensures

pub returns-in-None : goal.returns-in-None
returns-in-None c =
    let text = chars c.args.text.now in
    subst (HasNumberText text) (sym c.lend-in-None.ensures) (c.free_text.ensures (ap (λ w. parted w text) (sym chars-context) ∙ c.in-None.ensures.parted))
