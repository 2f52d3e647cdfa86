use Rattle.std.proofs.Common.{◌≡◌, ◌<◌, ℕ, List, ◌++◌, ap, length, subst, sym, ◌∙◌}
use Rattle.phone_encodings.specs.Decodings.{text_to_come}
use Rattle.phone_encodings.specs.Encodings.{characters, decoded}
use Rattle.phone_encodings.proofs.DecodedLemmas.{coming, none_left, read_last}
use Rattle.phone_encodings.proofs.LeftOvers.{unfinished_few}
use Rattle.phone_encodings.proofs.decoded.Decoded.decode_more.Goals as goal

pub returns-then-is_empty-clause-to_come : goal.returns-then-is_empty-clause-to_come
returns-then-is_empty-clause-to_come g c =
    let w = c.self.inside in
    let r = c.fill_up.ensures.read in
    let f = c.known-self-inside.result in
    let a = g.S.ByteSource.to_come w.source.now in
    let b = g.S.ByteSource.to_come c.fill_up.new.source in
    let done = c.decode.ensures.done (c.is_empty.ensures.none c.if-is_empty.true) in
    let few = subst (λ x. length x < 4) done.0 (unfinished_few _ f done.1) in
    let end = c.in_ok-fill_up.ensures.enough few in
    let known : (more : List ℕ) → characters f ((w.held ++ r.0) ++ more) ≡
    characters w.encoding ((w.held ++ r.0) ++ more) =
    λ more. subst (λ x. characters f (x ++ more) ≡ characters w.encoding (x ++ more))
    (c.bytes.ensures ∙ r.1) (c.known-self-inside.ensures.same more) in
    let last = c.decode_left_over.ensures.to_come f done.1 ∙ ap (decoded f) (done.0 ∙ r.1) in
    read_last w.held r.0 c.decode_left_over.new.text c.decode_left_over.new.held w.encoding f
    known a b r.2 end last ∙
    ap (λ t. coming t w.encoding w.held a)
    (sym (ap (λ d. d.text) c.self.view_is ∙ c.requires)) ∙
    ap (λ d. text_to_come d (g.S.ByteSource.to_come d.source)) c.self.view_is

pub returns-then-is_empty-clause-end : goal.returns-then-is_empty-clause-end
returns-then-is_empty-clause-end g c = λ none.
    let f = c.known-self-inside.result in
    let done = c.decode.ensures.done (c.is_empty.ensures.none c.if-is_empty.true) in
    let few = subst (λ x. length x < 4) done.0 (unfinished_few _ f done.1) in
    none_left _ _ f _ none (c.decode_left_over.ensures.done none)
    (c.in_ok-fill_up.ensures.enough few)
