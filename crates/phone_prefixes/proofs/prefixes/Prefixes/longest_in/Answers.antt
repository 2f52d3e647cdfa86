use Rattle.std.proofs.Common.{sym, subst, ap, ◌∙◌, arith}
use Rattle.std.specs.List.{Contains}
use Rattle.phone_prefixes.specs.Marks.{IsLongestMark, MarksNone}
use Rattle.phone_prefixes.specs.Nodes.{mark_of}
use Rattle.phone_prefixes.specs.Spans.{entry_in, IsSpan}
use Rattle.phone_prefixes.specs.Tables.{IsLongest}
use Rattle.phone_prefixes.specs.declared.span.Span.{Span}
use Rattle.phone_prefixes.proofs.Found.{longest_at, none_begins}
use Rattle.phone_prefixes.proofs.prefixes.Prefixes.longest_in.Goals as goal

pub returns-in-None-clause-longest : goal.returns-in-None-clause-longest
returns-in-None-clause-longest c = λ entry there begins.
    let marks = mark_of c.self.inside.trie.nodes.items in
    none_begins c.self.inside.bytes.items c.self.inside.spans.items marks c.self.invariant.indexed c.args.digits.now
    (subst (λ t. MarksNone marks t 15) c.as_bytes.ensures.value c.in-None.ensures.longest) entry (subst (λ es. Contains es entry) (sym c.self.view_is) there) begins

pub index-requires : goal.index-requires
index-requires c =
    let h = c.in-Some.ensures.longest in
    let d : Span = record { start = 0; tab = 0; end = 0 } in
    omega (arith, (c.self.invariant.indexed.named h.front c.in-Some.place d h.marked).0, c.self.inside.spans.ok.0)

pub entry_at-requires : goal.entry_at-requires
entry_at-requires c =
    let h = c.in-Some.ensures.longest in
    let span = c.index.result.now in
    subst (λ b. IsSpan b span) (sym c.as_slice.ensures.value)
    (subst (IsSpan c.self.inside.bytes.items) (sym c.index.ensures) (c.self.invariant.indexed.stand c.in-Some.place span (c.self.invariant.indexed.named h.front c.in-Some.place span h.marked).0))

pub returns-in-Some-clause-longest : goal.returns-in-Some-clause-longest
returns-in-Some-clause-longest c =
    let bytes = c.self.inside.bytes.items in
    let spans = c.self.inside.spans.items in
    let marks = mark_of c.self.inside.trie.nodes.items in
    let span = c.index.result.now in
    let h : IsLongestMark marks c.args.digits.now 15 c.in-Some.place = subst (λ t. IsLongestMark marks t 15 c.in-Some.place) c.as_bytes.ensures.value c.in-Some.ensures.longest in
    subst (λ es. IsLongest es c.args.digits.now (record { prefix = c.entry_at.result.0.now; text = c.entry_at.result.1.now })) c.self.view_is
    (longest_at bytes spans marks c.args.digits.now c.in-Some.place span c.entry_at.result.0.now c.entry_at.result.1.now c.self.invariant.indexed h c.index.ensures
    (c.entry_at.ensures.prefix ∙ ap (λ b. (entry_in b span).prefix) c.as_slice.ensures.value) (c.entry_at.ensures.text ∙ ap (λ b. (entry_in b span).text) c.as_slice.ensures.value))
