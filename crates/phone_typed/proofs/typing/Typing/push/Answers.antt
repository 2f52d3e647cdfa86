use Rattle.std.proofs.Common.{◌≡◌, true, string_bytes, arith, ap, ◌∙◌}
use Rattle.std.proofs.lemmas.Str.{IsCharBoundary-from_ascii}
use Rattle.std.specs.List.{list_all}
use Rattle.phone_typed.specs.Keys.{is_key}
use Rattle.phone_typed.specs.Typed.{typed}
use Rattle.phone_typed.proofs.KeysOfTexts.{IsAscii-keys, all-with_key}
use Rattle.phone_typed.proofs.typing.Typing.push.Goals as goal

pub invariant_of-self-in-Ok : goal.invariant_of-self-in-Ok
invariant_of-self-in-Ok c = (
  ap (list_all is_key) c.in_ok-push_key.ensures.pushed ∙ all-with_key (string_bytes c.self.inside.keys) c.args.c c.self.invariant.0,
  c.in-Ok.ensures c.self.inside.hint (λ _. c.self.invariant.2) ∙ ap (typed c.self.inside.database.now c.self.inside.hint) c.as_str.ensures.value,
  c.self.invariant.2,
)

pub truncate-requires : goal.truncate-requires
truncate-requires c le =
    let keys = string_bytes c.push_key.new.keys in
    let are : list_all is_key keys ≡ true =
    ap (list_all is_key) c.in_ok-push_key.ensures.pushed ∙ all-with_key (string_bytes c.self.inside.keys) c.args.c c.self.invariant.0 in
    let cut = IsCharBoundary-from_ascii keys c.len-len.result (IsAscii-keys keys are) (omega (arith, le, c.push_key.new.keys.bytes.ok.0)) in
    (cut.0, λ _ less big. cut.1 less big)
