use Rattle.std.proofs.Common.{rules, ◌≡◌, ◌∷◌, [], ◌++◌, Some, chars, encode_utf8, append_assoc, append-nil, ap, sym, ◌∙◌}
use Rattle.std.proofs.lemmas.List.{append_cancel_right}
use Rattle.std.proofs.lemmas.Str.{chars-nil}
use Rattle.phone_library_text.specs.Places.{parted}
use Rattle.phone_library_text.proofs.Partings.{behind, behind-more, parted-front, parted-later}
use Rattle.phone_library_text.proofs.Words.{word_found, word_lacks}
use Rattle.phone_library_text.proofs.places.split_at_word.Goals as goal

pub returns-in-Some-strip_prefix-clause-parted : goal.returns-in-Some-strip_prefix-clause-parted
returns-in-Some-strip_prefix-clause-parted c =
    let i = c.loop-next.invariant.2 in
    let word = c.args.word.now in
    let after = chars c.in-Some-strip_prefix.after.now in
    let front = chars c.before-in-Some-strip_prefix.result.now in
    let found = word_found word c.loop-next.rest.now c.in-Some-strip_prefix.after.now c.utf8.word c.in-Some-strip_prefix.ensures.cases in
    let same : i.0 ≡ front = append_cancel_right i.0 front (chars c.loop-next.rest.now) (sym i.1 ∙ c.before-in-Some-strip_prefix.ensures.read c.loop-next.invariant.1) in
    i.2
    ∙ ap (behind i.0) (ap (parted (chars word)) c.in-Some.ensures.read
    ∙ parted-front (chars word) c.in-Some.field-0-0 (chars c.in-Some.next.now) after (sym c.in-Some.ensures.read ∙ found))
    ∙ ap (λ t. Some (t, after)) (append-nil i.0 ∙ same)

pub loop-next-preserved : goal.loop-next-preserved
loop-next-preserved c =
    let v = c.loop-next.invariant.1 in
    let i = c.loop-next.invariant.2 in
    let x = c.in-Some.field-0-0 in
    let word = c.args.word.now in
    let next = chars c.in-Some.next.now in (
      search rules,
      (v.0 ++ encode_utf8 x, v.1 ∙ ap (λ t. v.0 ++ t) c.in-Some.ensures.cut ∙ sym (append_assoc v.0 (encode_utf8 x) c.in-Some.next.now)),
      (
        i.0 ++ x ∷ [],
        i.1 ∙ ap (λ t. i.0 ++ t) c.in-Some.ensures.read ∙ sym (append_assoc i.0 (x ∷ []) next),
        i.2
            ∙ ap (behind i.0) (ap (parted (chars word)) c.in-Some.ensures.read
            ∙ parted-later (chars word) x next
            (λ rest e. word_lacks word c.loop-next.rest.now c.utf8.word c.loop-next.invariant.0 c.in_default-strip_prefix.ensures.cases rest (c.in-Some.ensures.read ∙ e)))
            ∙ behind-more i.0 x (parted (chars word) next),
      ),
    )

pub returns-clause-parted : goal.returns-clause-parted
returns-clause-parted c =
    let i = c.loop-next.invariant.2 in
    let word = chars c.args.word.now in
    i.2 ∙ ap (λ t. behind i.0 (parted word (chars t))) c.in_default.ensures.cut ∙ ap (λ t. behind i.0 (parted word t)) chars-nil
