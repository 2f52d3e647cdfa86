use Rattle.std.proofs.Common.{◌≡◌, ℕ, ◌+◌, ◌-◌, ◌≤◌, ◌++◌, List, IsCharBoundary, length, drop, arith, length-append, ap, sym, ◌∙◌, subst}
use Rattle.std.proofs.Math.Seq.{drop-append_seam}
use Rattle.std.proofs.lemmas.Str.{IsCharBoundary-at_seam}
use Rattle.std.specs.Cow.{cow_str_bytes}
use Rattle.std.specs.Str.{chars}
use Rattle.phone_chars.specs.Characters.{is_plus}
use Rattle.phone_chars.specs.Cuts.{after_front}
use Rattle.phone_read.proofs.dialled.without_plus_signs.Goals as goal

-- a text of two parts: the length of the second is at most that of the whole, what it lacks is the length of the first, and
-- behind so much the second follows
module _ (text v rest : List ℕ) (whole : text ≡ v ++ rest) where
  all : length text ≡ length v + length rest
  all = ap length whole ∙ length-append v rest

  within : length rest ≤ length text
  within = omega (arith, all)

  counted : length text - length rest ≡ length v
  counted = omega (arith, all)

  behind : drop (length text - length rest) text ≡ rest
  behind = ap (λ n. drop n text) counted ∙ ap (drop (length v)) whole ∙ drop-append_seam v rest

pub overflow_sub-at : goal.overflow_sub-at
overflow_sub-at c =
    omega (arith, all c.as_str-2.result.now c.after_run.ensures.end.0 c.after_run.result.now c.after_run.ensures.end.1, c.as_str.ensures.len, c.as_str-2.ensures.len)

pub trim-requires : goal.trim-requires
trim-requires c =
    let text = cow_str_bytes c.args.text in
    let whole : text ≡ c.after_run.ensures.end.0 ++ c.after_run.result.now = sym c.as_str-2.ensures.value ∙ c.after_run.ensures.end.1 in
    let at : length c.as_str.result.now - length c.after_run.result.now ≡ length c.after_run.ensures.end.0 =
    ap (λ n. n - length c.after_run.result.now) c.as_str.ensures.len ∙ counted text c.after_run.ensures.end.0 c.after_run.result.now whole in
    subst (IsCharBoundary text) (sym at) (IsCharBoundary-at_seam text c.after_run.ensures.end.0 c.after_run.result.now whole c.after_run.utf8)

pub returns-clause-text : goal.returns-clause-text
returns-clause-text c =
    let text = cow_str_bytes c.args.text in
    let whole : text ≡ c.after_run.ensures.end.0 ++ c.after_run.result.now = sym c.as_str-2.ensures.value ∙ c.after_run.ensures.end.1 in
    let rest : cow_str_bytes c.trim.result ≡ c.after_run.result.now =
    c.trim.ensures.text ∙ ap (λ n. drop (n - length c.after_run.result.now) text) c.as_str.ensures.len ∙ behind text c.after_run.ensures.end.0 c.after_run.result.now whole in
    ap chars rest ∙ c.after_run.ensures.rest ∙ ap (λ t. after_front is_plus (chars t)) c.as_str-2.ensures.value

pub returns-clause-borrowed : goal.returns-clause-borrowed
returns-clause-borrowed c = c.trim.ensures.borrowed
