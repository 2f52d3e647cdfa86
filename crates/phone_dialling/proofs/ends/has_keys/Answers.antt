use Rattle.std.proofs.Common.{◌≡◌, ℕ, List, None, Some, chars, rules, ap, sym, ◌∙◌}
use Rattle.std.proofs.lemmas.Str.{chars-nil}
use Rattle.std.specs.Option.{option_copied}
use Rattle.std.specs.Str.{bytes_eq}
use Rattle.phone_dialling.specs.Keys.{behind_key, keys_of}
use Rattle.phone_dialling.proofs.Steps.{nothing_so, step_so, stop_so}
use Rattle.phone_dialling.proofs.ends.has_keys.Goals as goal

pub returns-in_default-behind_key : goal.returns-in_default-behind_key
returns-in_default-behind_key c =
    let left = c.loop-c.left.now in
    let none : behind_key c.in-Some.c left ≡ None = sym c.behind_key.ensures ∙ ap option_copied c.in_default-behind_key.is in
    sym (c.loop-c.invariant.1 ∙ ap (λ (t : List ℕ). bytes_eq (keys_of t) left) c.in-Some.ensures.read
    ∙ stop_so c.in-Some.c (chars c.in-Some.after.now) left none)

pub loop-c-preserved : goal.loop-c-preserved
loop-c-preserved c =
    let left = c.loop-c.left.now in
    let some : behind_key c.in-Some.c left ≡ Some c.in-Some-behind_key.more.now = sym c.behind_key.ensures ∙ ap option_copied c.in-Some-behind_key.is in (
      search rules,
      c.loop-c.invariant.1 ∙ ap (λ (t : List ℕ). bytes_eq (keys_of t) left) c.in-Some.ensures.read
          ∙ step_so c.in-Some.c (chars c.in-Some.after.now) left c.in-Some-behind_key.more.now some,
    )

pub returns : goal.returns
returns c =
    let left = c.loop-c.left.now in
    c.is_empty.ensures ∙ nothing_so left
    ∙ sym (c.loop-c.invariant.1 ∙ ap (λ (t : List ℕ). bytes_eq (keys_of (chars t)) left) c.in_default.ensures.cut
    ∙ ap (λ (t : List ℕ). bytes_eq (keys_of t) left) chars-nil)
