use Rattle.std.proofs.Common.{◌≡◌, ℕ, ◌<◌, ◌++◌, ◌∷◌, [], List, true, false, rules, length, length-append, append_assoc, refl, ap, sym, subst, ◌∙◌, true≢false, arith}
use Rattle.std.proofs.lemmas.Str.{chars-nil}
use Rattle.std.specs.Str.{chars}
use Rattle.phone_parts.proofs.Longest.{up_to_of_end}
use Rattle.phone_library_text.specs.Scans.{IsMarkGap, announces, seen_in}
use Rattle.phone_library_text.proofs.Announced.{announced_of}
use Rattle.phone_library_text.proofs.NoDigits.{no_digit}
use Rattle.phone_library_text.proofs.Searches.{Found, announces_next, earlier, found_all, found_further, found_here, has_digit, seen_next}
use Rattle.phone_library_text.proofs.announcement.before_announcement.Goals as goal

pub returns-then-is_nd-clause-read : goal.returns-then-is_nd-clause-read
returns-then-is_nd-clause-read c =
    let inv = c.loop-front.invariant in
    let text = chars c.args.text.now in
    let front = chars c.in-Some.front.now in
    let x = c.in-Some.c in
    let whole : text ≡ front ++ x ∷ inv.2.0 = inv.2.1 ∙ ap (λ r. r ++ inv.2.0) c.in-Some.ensures.read ∙ append_assoc front (x ∷ []) inv.2.0 in
    let none : (before other : List ℕ) → text ≡ before ++ other → length before < length (chars c.loop-front.left.now) →
    ¬ (announces c.before-allowed.result other ≡ true) = λ before other e less k.
    let digit = has_digit text front inv.2.0 x whole (sym c.is_nd.ensures ∙ c.if-is_nd.true) before other e
    (omega (arith, less, ap length c.in-Some.ensures.read, length-append front (x ∷ []))) in
    let is = announced_of other c.args.digits c.args.signed (subst (λ a. announces a other ≡ true) c.before-allowed.ensures k) in
    true≢false (sym digit ∙ no_digit other c.args.digits c.args.signed is) in
    subst (λ a. Found (λ t. announces a t ≡ true) text c.loop-front.found) c.before-allowed.ensures
    (found_all (λ t. announces c.before-allowed.result t ≡ true) text (length (chars c.loop-front.left.now)) c.loop-front.found inv.3 none)

pub before-seen-requires : goal.before-seen-requires
before-seen-requires c =
    let inv = c.loop-front.invariant in
    let e = earlier c.args.text.now c.loop-front.left.now inv.1.0 c.in-Some.front.now c.after-end.result.now c.in-Some.c inv.2.0 (search rules)
    inv.1.1 inv.2.1 c.in-Some.ensures.cut c.in-Some.ensures.read c.after-end.ensures in
    up_to_of_end IsMarkGap c.mark_gap_limit-limit.result c.args.text.now c.in-Some.front.now c.after-end.result.now e.cut c.mark_gap_limit-limit.ensures

pub loop-front-preserved-then-announces : goal.loop-front-preserved-then-announces
loop-front-preserved-then-announces c =
    let inv = c.loop-front.invariant in
    let e = earlier c.args.text.now c.loop-front.left.now inv.1.0 c.in-Some.front.now c.after-end.result.now c.in-Some.c inv.2.0 (search rules)
    inv.1.1 inv.2.1 c.in-Some.ensures.cut c.in-Some.ensures.read c.after-end.ensures in
    let a = c.before-allowed.result in
    let end = chars c.after-end.result.now in
    let seen = seen_next a c.loop-front.seen c.before-seen.result c.in-Some.c inv.2.0 end inv.2.2 e.characters c.before-seen.ensures in
    let kind : announces a end ≡ true =
    sym (announces_next a c.before-seen.result c.in-Some.c inv.2.0 end seen e.characters) ∙ sym c.announces.ensures ∙ c.if-announces.true in (
      search rules,
      (c.after-end.result.now, e.cut),
      (end, e.read, seen ∙ ap (seen_in a) (sym e.characters)),
      found_here (λ t. announces a t ≡ true) (chars c.args.text.now) (chars c.in-Some.front.now) end (length (chars c.in-Some.front.now)) e.read refl kind,
      (c.after-end.result.now, e.cut),
    )

pub loop-front-preserved : goal.loop-front-preserved
loop-front-preserved c =
    let inv = c.loop-front.invariant in
    let e = earlier c.args.text.now c.loop-front.left.now inv.1.0 c.in-Some.front.now c.after-end.result.now c.in-Some.c inv.2.0 (search rules)
    inv.1.1 inv.2.1 c.in-Some.ensures.cut c.in-Some.ensures.read c.after-end.ensures in
    let a = c.before-allowed.result in
    let front = chars c.in-Some.front.now in
    let end = chars c.after-end.result.now in
    let seen = seen_next a c.loop-front.seen c.before-seen.result c.in-Some.c inv.2.0 end inv.2.2 e.characters c.before-seen.ensures in
    let none : announces a end ≡ false =
    sym (announces_next a c.before-seen.result c.in-Some.c inv.2.0 end seen e.characters) ∙ sym c.announces.ensures ∙ c.if-announces.false in (
      search rules,
      (c.after-end.result.now, e.cut),
      (end, e.read, seen ∙ ap (seen_in a) (sym e.characters)),
      found_further (λ t. announces a t ≡ true) (chars c.args.text.now) front end (length front) c.loop-front.found e.read refl (λ k. true≢false (sym k ∙ none))
          (length (chars c.loop-front.left.now)) (omega (arith, ap length c.in-Some.ensures.read, length-append front (c.in-Some.c ∷ []))) inv.3,
      inv.4,
    )

pub returns-clause-read : goal.returns-clause-read
returns-clause-read c =
    let inv = c.loop-front.invariant in
    let text = chars c.args.text.now in
    subst (λ a. Found (λ t. announces a t ≡ true) text c.loop-front.found) c.before-allowed.ensures
    (found_all (λ t. announces c.before-allowed.result t ≡ true) text (length (chars c.loop-front.left.now)) c.loop-front.found inv.3
    (λ before other e less k. omega (arith, less, ap (λ t. length (chars t)) c.in_default.ensures.cut, ap length chars-nil)))
