use Rattle.std.proofs.Common.{◌≡◌, ◌++◌, ◌∷◌, [], ap, sym, append_assoc, ◌∙◌}
use Rattle.phone_lines.proofs.Progress.{Holds-handed, Holds-on}
use Rattle.phone_lines.proofs.TakenProgress.{Holds-breaks, IsReportOnFirst-so_far, IsTakenSoFar-first, IsTakenSoFar-lengthened}
use Rattle.phone_lines.proofs.pending_output.PendingOutput.take_pieces.Goals as goal

pub returns-in_default-take_line-clause-memory : goal.returns-in_default-take_line-clause-memory
returns-in_default-take_line-clause-memory g c is first bytes before s =
    let i = c.loop-line.invariant in
    let block = c.args.block.now in
    let rest = c.loop-line.rest.now in
    rw c.in_default-take_line.ensures.answers_kept
    (Holds-on (λ written. IsTakenSoFar-first _ _ first (bytes ++ i.taken) rest (bytes ++ block) _ _ _
    (append_assoc bytes i.taken rest ∙ ap (λ t. bytes ++ t) (sym i.whole)))
    (i.on first bytes before s))

pub returns-in_default-hand_on-clause-broken : goal.returns-in_default-hand_on-clause-broken
returns-in_default-hand_on-clause-broken g c is first bytes before to_come s =
    let i = c.loop-line.invariant in
    let block = c.args.block.now in
    let ended = c.in-Some.line.now ++ 10 ∷ [] in
    let after = c.in-Some.after.now in
    let on = Holds-on (c.in-Ok.ensures.taken first (bytes ++ i.taken)) (i.on first bytes before s) in
    let whole : block ≡ i.taken ++ (ended ++ after) = i.whole ∙ ap (λ t. i.taken ++ t) (c.in-Some.ensures.cut ∙ sym (append_assoc c.in-Some.line.now (10 ∷ []) after)) in
    Holds-breaks _ _ first to_come (bytes ++ block) (λ text so_far. IsReportOnFirst-so_far _ _ first to_come (bytes ++ block) text
    (IsTakenSoFar-first _ _ first ((bytes ++ i.taken) ++ ended) after (bytes ++ block) c.take_line.new.self.line.items c.take_line.new.taker text
    (append_assoc (bytes ++ i.taken) ended after ∙ append_assoc bytes i.taken (ended ++ after) ∙ ap (λ t. bytes ++ t) (sym whole)) so_far))
    on c.in_default-hand_on.ensures.front

pub loop-line-preserved : goal.loop-line-preserved
loop-line-preserved g c =
    let i = c.loop-line.invariant in
    let ended = c.in-Some.line.now ++ 10 ∷ [] in
    let after = c.in-Some.after.now in
    record {
      taken = i.taken ++ ended;
      whole = i.whole ∙ ap (λ t. i.taken ++ t) (c.in-Some.ensures.cut ∙ sym (append_assoc c.in-Some.line.now (10 ∷ []) after)) ∙ sym (append_assoc i.taken ended after);
      on = λ first bytes before s.
          let on = Holds-on (c.in-Ok.ensures.taken first (bytes ++ i.taken)) (i.on first bytes before s) in
          let handed = c.in-Ok-hand_on.ensures.handed in
          rw (← append_assoc bytes i.taken ended)
          (Holds-handed handed.0 c.hand_on.new.held.items _ on handed.1 handed.2);
      short = c.in-Ok-hand_on.ensures.short;
      same_faults = c.in-Ok-hand_on.ensures.no_fault ∙ i.same_faults;
    }

pub returns-in-Ok-extend_from_slice-clause-taken : goal.returns-in-Ok-extend_from_slice-clause-taken
returns-in-Ok-extend_from_slice-clause-taken g c first bytes before s =
    let i = c.loop-line.invariant in
    let rest = c.loop-line.rest.now in
    let line = c.loop-line.self.line.items in
    rw (c.in-Ok-extend_from_slice.ensures.items, i.whole, ← append_assoc bytes i.taken rest)
    (Holds-on (λ written so_far. IsTakenSoFar-lengthened _ _ first (bytes ++ i.taken) line _ _ rest so_far c.in_default.ensures.line)
    (i.on first bytes before s))

pub returns-in-Err-clause-memory : goal.returns-in-Err-clause-memory
returns-in-Err-clause-memory g c is first bytes before s =
    let i = c.loop-line.invariant in
    let block = c.args.block.now in
    let rest = c.loop-line.rest.now in
    Holds-on (λ written. IsTakenSoFar-first _ _ first (bytes ++ i.taken) rest (bytes ++ block) _ _ _
    (append_assoc bytes i.taken rest ∙ ap (λ t. bytes ++ t) (sym i.whole)))
    (i.on first bytes before s)
