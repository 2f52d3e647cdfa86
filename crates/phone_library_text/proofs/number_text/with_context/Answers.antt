use Rattle.std.proofs.Common.{◌≡◌, ◌==◌, ◌++◌, true, false, List, ℕ, Some, codes, ap, sym, subst, true≢false, ◌∙◌}
use Rattle.std.specs.List.{list_any}
use Rattle.std.specs.Str.{chars}
use Rattle.std.specs.Str.Pattern.{FindsCharPrefix}
use Rattle.std.specs.String.{string_bytes}
use Rattle.phone_parts.specs.Texts.{begins}
use Rattle.phone_parts.proofs.Patterns.{one_char, starts-begins}
use Rattle.phone_library_text.specs.Contexts.{IsContext}
use Rattle.phone_library_text.specs.NumberTexts
use Rattle.phone_library_text.specs.NumberTexts.{HasNumberText, context_in, global_part, local_part, without_subaddress}
use Rattle.phone_library_text.specs.Places.{before_first}
use Rattle.phone_library_text.proofs.NumbersIn.{context_plain, joined_text, local_text}
use Rattle.phone_library_text.proofs.number_text.with_context.Goals as goal

-- the text of a local number, by its parts
has_local : (t front after context n : List ℕ) → HasNumberText t (Some (without_subaddress (global_part (context_in after) ++ local_part t front))) →
    context ≡ context_in after → n ≡ without_subaddress (global_part context ++ local_part t front) → HasNumberText t (Some n)
has_local t front after context n h e f =
    subst (λ x. HasNumberText t (Some x)) (sym (f ∙ ap (λ x. without_subaddress (global_part x ++ local_part t front)) e)) h

pub returns-then-not-is_context : goal.returns-then-not-is_context
returns-then-not-is_context c after e f =
    NumberTexts.no_context (chars c.args.front.now) after e
    (λ h. true≢false (sym (c.is_context.ensures.1 (subst IsContext (sym f) h)) ∙ c.if-not-is_context.true))

pub returns-then-starts_with : goal.returns-then-starts_with
returns-then-starts_with c after e f =
    let text = chars c.args.text.now in
    let front = chars c.args.front.now in
    let context = chars c.args.context.now in
    let local = chars c.local_part-local.result.now in
    let first : begins (λ d. d == 43) context ≡ true =
    sym (starts-begins (λ d. d == 43) (FindsCharPrefix 43) (one_char 43) c.args.context.now c.starts_with.result c.utf8.context c.starts_with.ensures.cases) ∙ c.if-starts_with.true in
    let plain : list_any (λ d. d == 59) context ≡ false = ap (list_any (λ d. d == 59)) f ∙ context_plain after in
    has_local text front after context (chars (string_bytes c.in_ok-join.field-0))
    (NumberTexts.local front after e (subst IsContext f (c.is_context.ensures.0 c.if-not-is_context.false))) f
    (c.in_ok-join.ensures ∙ ap (λ t. context ++ before_first (codes ";isub=") t) c.local_part-local.ensures ∙ sym (joined_text context (local_part text front) first plain))

pub returns : goal.returns
returns c after e f =
    let text = chars c.args.text.now in
    let front = chars c.args.front.now in
    let context = chars c.args.context.now in
    let first : begins (λ d. d == 43) context ≡ false =
    sym (starts-begins (λ d. d == 43) (FindsCharPrefix 43) (one_char 43) c.args.context.now c.starts_with.result c.utf8.context c.starts_with.ensures.cases) ∙ c.if-starts_with.false in
    has_local text front after context (chars c.without_subaddress.result.now)
    (NumberTexts.local front after e (subst IsContext f (c.is_context.ensures.0 c.if-not-is_context.false))) f
    (c.without_subaddress.ensures ∙ ap without_subaddress c.local_part-local.ensures ∙ sym (local_text context (local_part text front) first))
