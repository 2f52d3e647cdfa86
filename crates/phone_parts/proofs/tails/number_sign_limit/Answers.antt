use Rattle.std.proofs.Common.{◌++◌, ◌∷◌, [], ◌≡◌, ℕ, List, length, length-append, rules, refl, ap, sym, ◌∙◌, encode_utf8, arith}
use Rattle.std.proofs.lemmas.Str.{chars-append}
use Rattle.std.specs.Str.{chars}
use Rattle.phone_parts.specs.Suffixes.{IsSomeNumberSigned}
use Rattle.phone_parts.proofs.Closings.{ends_in_sign, front_of_front, lead_before, lead_le, number_signed_parts, some_digits, whole_front}
use Rattle.phone_parts.proofs.Longest.{chars_cut, end_same, ends_within}
use Rattle.phone_parts.proofs.Likes.{same_chars}
use Rattle.phone_parts.proofs.tails.number_sign_limit.Goals as goal
use Rattle.phone_parts.proofs.tails.number_sign_limit.Goals.{After-before_few-without_digits}

-- the text is what stands before its sign, and the sign
module _ (c : After-before_few-without_digits) where
  abbrev text : List ℕ
  text = chars c.args.text.now

  abbrev signless : List ℕ
  signless = chars c.in-Some.without_sign.now

  abbrev bare : List ℕ
  bare = chars c.before_few-without_digits.result.now

  signed : text ≡ signless ++ 35 ∷ []
  signed = c.in-Some.ensures.read ∙ ap (λ x. signless ++ x ∷ []) c.if-last-ne35.false

pub returns-then-last-ne35-clause-longest : goal.returns-then-last-ne35-clause-longest
returns-then-last-ne35-clause-longest c = λ before end cut is_end k.
    let whole = chars_cut c.args.text.now before end c.utf8.text cut is_end in
    absurd (c.if-last-ne35.true (ends_in_sign (chars c.in-Some.without_sign.now) c.in-Some.last (chars before) (chars end) k.0 (sym c.in-Some.ensures.read ∙ whole) k.1))

pub returns-then-without_digits-without_sign-clause-longest : goal.returns-then-without_digits-without_sign-clause-longest
returns-then-without_digits-without_sign-clause-longest c = λ before end cut is_end k.
    let s = (goal.at.returns-then-without_digits-without_sign-clause-longest c).After-before_few-without_digits in
    let whole = chars_cut c.args.text.now before end c.utf8.text cut is_end in
    let less = some_digits (text s) (signless s) (bare s) (signed s) c.before_few-without_digits.ensures.read (chars before) (chars end) k.0 whole k.1 in
    let same = whole_front c.in-Some.without_sign.now c.before_few-without_digits.result.now c.before_few-without_digits.ensures.front c.if-without_digits-without_sign.true in
    absurd (omega (arith, less, ap (λ t. length (chars t)) same))

pub returns-then-left-without_digits-clause-longest : goal.returns-then-left-without_digits-clause-longest
returns-then-left-without_digits-clause-longest c = λ before end cut is_end k.
    let s = (goal.at.returns-then-left-without_digits-clause-longest c).After-before_few-without_digits in
    let whole = chars_cut c.args.text.now before end c.utf8.text cut is_end in
    let less = lead_before (text s) (signless s) (bare s) (signed s) c.before_few-without_digits.ensures.read (chars before) (chars end) k.0 whole k.1 in
    let far = lead_le (text s) (signless s) (bare s) (signed s) c.before_few-without_digits.ensures.read (chars c.before_run-left.result.now) (chars before) (chars end) k.0
    c.before_run-left.ensures.read whole k.1 in
    let same = whole_front c.before_few-without_digits.result.now c.before_run-left.result.now c.before_run-left.ensures.front c.if-left-without_digits.true in
    absurd (omega (arith, less, far, ap (λ t. length (chars t)) same))

pub returns-clause-longest : goal.returns-clause-longest
returns-clause-longest c =
    let s = (goal.at.returns-clause-longest c).After-before_few-without_digits in
    let cut = front_of_front c.args.text.now _ _ (front_of_front c.args.text.now _ _ (encode_utf8 c.in-Some.last, c.in-Some.ensures.cut) c.before_few-without_digits.ensures.front)
    c.before_run-left.ensures.front in
    ends_within IsSomeNumberSigned c.args.text.now c.before_run-left.result.now cut.0 c.utf8.text c.before_run-left.utf8 cut.1
    (λ before w whole k.
    lead_le (text s) (signless s) (bare s) (signed s) c.before_few-without_digits.ensures.read
    (chars c.before_run-left.result.now) before w k.0 c.before_run-left.ensures.read whole k.1)
    _ refl

pub returns-clause-reached : goal.returns-clause-reached
returns-clause-reached c = λ some before end cut size.
    let s = (goal.at.returns-clause-reached c).After-before_few-without_digits in
    let text_bytes = c.args.text.now in
    let left = c.before_run-left.result.now in
    let whole = front_of_front text_bytes _ _ (front_of_front text_bytes _ _ (encode_utf8 c.in-Some.last, c.in-Some.ensures.cut) c.before_few-without_digits.ensures.front)
    c.before_run-left.ensures.front in
    let same : end ≡ whole.0 = end_same before end left whole.0 (sym cut ∙ whole.1) (omega (arith, some, size, ap length cut, length-append before end)) in
    let parts : text s ≡ chars left ++ chars end = ap chars whole.1 ∙ chars-append left whole.0 c.before_run-left.utf8 ∙ ap (λ t. chars left ++ chars t) (sym same) in (
      c.before_few-without_digits.ensures.read.end,
      number_signed_parts (text s) (signless s) (bare s) (signed s) c.before_few-without_digits.ensures.read (chars left) c.before_run-left.ensures.read
          (λ e. c.if-without_digits-without_sign.false (ap length (same_chars c.before_few-without_digits.result.now c.in-Some.without_sign.now c.before_few-without_digits.utf8 (search rules) e)))
          (λ e. c.if-left-without_digits.false (ap length (same_chars left c.before_few-without_digits.result.now c.before_run-left.utf8 c.before_few-without_digits.utf8 e)))
          (chars end) parts,
    )
