use Rattle.std.proofs.Common.{◌≡◌, ◌<◌, ◌≤◌, ◌+◌, [], ◌∷◌, length, sym, ap, ◌∙◌, subst, arith}
use Rattle.std.proofs.Common.{rules, drop, map}
use Rattle.std.proofs.Math.Seq.{drop-length}
use Rattle.regex_hir.specs.Meaning.{meaning, alt_all, cat_all, up_to, copies, repeat}
use Rattle.regex_hir.specs.Re.{empty}
use Rattle.regex_hir.proofs.MeaningLemmas.{meaning-Empty, meaning-Capture}
use Rattle.phone_automaton.specs.Rows.{GivesBefore, Grows, TellsBefore, none}
use Rattle.phone_automaton.proofs.Bridge.{IfSome-weaker}
use Rattle.phone_automaton.proofs.Joining.{Grows-one, Grows-same, Grows-twice, IfSome-both}
use Rattle.phone_automaton.proofs.Joining.{IsPlace-grows}
use Rattle.phone_automaton.proofs.Reading.{gives_branch_more, gives_cat_more, gives_cat_one}
use Rattle.phone_automaton.proofs.Reading.{gives_empty, gives_group, gives_last_copy}
use Rattle.phone_automaton.proofs.Reading.{gives_no_branch, gives_repeat, nothing_left, no_cell_yet}
use Rattle.phone_automaton.proofs.Reading.{tells_empty, tells_more_copies, tells_up_to}
use Rattle.phone_automaton.proofs.Reading.{trees_behind}
use Rattle.phone_automaton.proofs.tree.+row_of.Goals as goal

pub row_of-returns-in-Empty-clause-gives : goal.row_of-returns-in-Empty-clause-gives
row_of-returns-in-Empty-clause-gives t c =
    let row = c.row.ensures in
    subst (λ re. GivesBefore c.args.rows.now c.row.result c.args.next re)
    (sym (ap meaning c.in-Empty.is ∙ meaning-Empty))
    (gives_empty c.args.rows.now c.row.result c.args.next row.known row.cells row.leads)

pub row_of-returns-in-Capture-clause-gives : goal.row_of-returns-in-Capture-clause-gives
row_of-returns-in-Capture-clause-gives t c =
    let new = c.row_of.new.rows in
    let next = c.args.next in
    IfSome-weaker _ _
    (λ row h. subst (λ re. GivesBefore new row next re)
    (sym (ap meaning c.in-Capture.is ∙ meaning-Capture _ _))
    (gives_group new row next c.in-Capture.index _
    (subst (λ x. GivesBefore new row next (meaning x)) c.deref-in-Capture.ensures h)))
    c.row_of.result c.row_of.ensures.gives

pub row_of_all-returns-then-is_empty-clause-gives :
    goal.row_of_all-returns-then-is_empty-clause-gives
row_of_all-returns-then-is_empty-clause-gives t c =
    let zero : length c.args.subs.now ≡ 0 = search rules in
    let none : c.args.subs.now ≡ [] = nothing_left c.args.subs.now 0 (omega (arith, zero)) in
    let row = c.row.ensures in
    subst (λ l. GivesBefore c.args.rows.now c.row.result c.args.next (cat_all (map meaning l)))
    (sym none)
    (gives_empty c.args.rows.now c.row.result c.args.next row.known row.cells row.leads)

pub row_of_all-loop-i-init : goal.row_of_all-loop-i-init
row_of_all-loop-i-init t c =
    let subs = c.args.subs.now in
    let new = c.row_of.new.rows in
    let made = c.in_ok-row.ensures in
    let some : 0 < length subs = search rules in
    let more = trees_behind subs (length subs) c.index-subs-last.result some (omega arith)
    c.index-subs-last.is in record {
      grows = made.grows;
      next = IsPlace-grows c.args.rows.now new c.args.next made.grows c.requires;
      gives = subst (λ l. GivesBefore new c.in_ok-row.row c.args.next (cat_all l))
          (sym (more ∙ ap (λ l. meaning c.index-subs-last.result ∷ map meaning l)
          (drop-length subs)))
          (gives_cat_one new c.in_ok-row.row c.args.next (meaning c.index-subs-last.result)
          made.gives);
    }

pub row_of_all-loop-i-preserved : goal.row_of_all-loop-i-preserved
row_of_all-loop-i-preserved t c =
    let i = c.loop-i.invariant in
    let old = c.loop-i.rows in
    let between = c.push.new.self in
    let new = c.row_of-in-loop-i.new.rows in
    let next = c.args.next in
    let push = c.in_ok-place.ensures in
    let made = c.in_ok-row-2.ensures in
    let subs = c.args.subs.now in
    let row = c.loop-i.row in
    let pushed = Grows-one old between row push.grows in
    let grows = Grows-twice old between new pushed made.grows in
    let inside : c.loop-i.i ≤ length subs = omega (arith, c.loop-i.auto.i) in
    let more = trees_behind subs c.loop-i.i c.index-subs-i.result c.loop-i-test.true inside
    c.index-subs-i.is in record {
      grows = Grows-twice c.args.rows.now old new i.grows grows;
      next = IsPlace-grows old new next grows i.next;
      gives = subst (λ l. GivesBefore new c.in_ok-row-2.row next (cat_all l)) (sym more)
          (gives_cat_more old row between new c.in_ok-row-2.row c.in_ok-place.place next
          (meaning c.index-subs-i.result) (map meaning (drop c.loop-i.i subs))
          push.grows push.place push.known push.kept made.grows i.next push.inside i.gives
          made.gives);
    }

pub row_of_any-loop-i-init : goal.row_of_any-loop-i-init
row_of_any-loop-i-init t c = record {
  grows = Grows-same c.args.rows.now;
  next = c.requires;
  gives = subst (λ l. GivesBefore c.args.rows.now none c.args.next (alt_all (map meaning l)))
      (sym (drop-length c.args.subs.now))
      (gives_no_branch c.args.rows.now none c.args.next c.requires (λ n low. no_cell_yet n));
}

pub row_of_any-loop-i-preserved : goal.row_of_any-loop-i-preserved
row_of_any-loop-i-preserved t c =
    let i = c.loop-i.invariant in
    let old = c.loop-i.rows in
    let between = c.row_of.new.rows in
    let new = c.join.new.rows in
    let next = c.args.next in
    let first = c.in_ok-first.ensures in
    let made = c.in_ok-row.ensures in
    let subs = c.args.subs.now in
    let grows = Grows-twice old between new first.grows made.grows in
    let more = trees_behind subs c.loop-i.i c.index-subs-i.result c.loop-i-test.true c.loop-i.auto.i
    c.index-subs-i.is in record {
      grows = Grows-twice c.args.rows.now old new i.grows grows;
      next = IsPlace-grows old new next grows i.next;
      gives = subst (λ l. GivesBefore new c.in_ok-row.row next (alt_all l)) (sym more)
          (gives_branch_more old between new c.loop-i.row c.in_ok-first.first c.in_ok-row.row next
          (meaning c.index-subs-i.result) (map meaning (drop c.loop-i.i subs))
          c.known.ensures c.known-in-loop-i.ensures first.grows made.grows i.next first.gives
          i.gives made.lead made.either);
    }

pub row_of_copies-returns-then-count-eq0-clause-gives :
    goal.row_of_copies-returns-then-count-eq0-clause-gives
row_of_copies-returns-then-count-eq0-clause-gives t c =
    let row = c.row.ensures in
    subst (λ n. GivesBefore c.args.rows.now c.row.result c.args.next
    (copies n (meaning c.args.sub.now) empty)) (sym c.if-count-eq0.true)
    (gives_empty c.args.rows.now c.row.result c.args.next row.known row.cells row.leads)

pub row_of_copies-loop-done-init : goal.row_of_copies-loop-done-init
row_of_copies-loop-done-init t c = record {
  grows = Grows-same c.args.rows.now;
  place = c.requires;
  next = c.requires;
  tells = tells_empty c.args.rows.now c.args.next;
}

pub row_of_copies-loop-done-preserved : goal.row_of_copies-loop-done-preserved
row_of_copies-loop-done-preserved t c =
    let i = c.loop-done.invariant in
    let old = c.loop-done.rows in
    let between = c.row_of.new.rows in
    let new = c.push.new.self in
    let next = c.args.next in
    let row = c.in_ok-row.row in
    let made = c.in_ok-row.ensures in
    let push = c.in_ok-place.ensures in
    let grows = Grows-twice old between new made.grows (Grows-one between new row push.grows) in
    record {
      grows = Grows-twice c.args.rows.now old new i.grows grows;
      place = push.inside;
      next = IsPlace-grows old new next grows i.next;
      tells = tells_more_copies old between new row c.in_ok-place.place c.loop-done.place next
          c.loop-done.done (meaning c.args.sub.now) c.known.ensures push.known made.grows
          push.grows push.place i.place i.next made.gives i.tells;
    }

pub row_of_copies-returns-clause-gives : goal.row_of_copies-returns-clause-gives
row_of_copies-returns-clause-gives t c =
    let i = c.loop-done.invariant in
    let old = c.loop-done.rows in
    let new = c.row_of-2.new.rows in
    let next = c.args.next in
    let a = meaning c.args.sub.now in
    let all : c.loop-done.done + 1 ≡ c.args.count = omega
    (arith, c.loop-done-test.false, c.loop-done.auto.done-end, c.if-count-eq0.false) in
    IfSome-both (λ row. Grows old new) (λ row. GivesBefore new row c.loop-done.place a)
    (λ row. GivesBefore new row next (copies c.args.count a empty)) c.row_of-2.result
    (λ row grows gives. gives_last_copy old new row c.loop-done.place next c.loop-done.done
    c.args.count a c.known-2.ensures grows all i.place i.next gives i.tells)
    c.row_of-2.ensures.grows c.row_of-2.ensures.gives

pub row_of_repeated-returns-clause-gives : goal.row_of_repeated-returns-clause-gives
row_of_repeated-returns-clause-gives t c =
    let old = c.place_of_up_to.new.rows in
    let new = c.row_of_copies.new.rows in
    let next = c.args.next in
    let middle = c.in_ok-place.place in
    let made = c.in_ok-place.ensures in
    let a = meaning c.args.sub.now in
    let in_next = IsPlace-grows c.args.rows.now old next made.grows c.requires in
    let many = subst (λ n. TellsBefore old middle next (up_to c.args.greedy n a))
    c.saturating_sub.ensures made.tells in
    IfSome-both (λ row. Grows old new) (λ row. GivesBefore new row middle
    (copies c.args.min a empty))
    (λ row. GivesBefore new row next (repeat c.args.min c.args.max c.args.greedy a))
    c.row_of_copies.result
    (λ row grows gives. subst (λ max. GivesBefore new row next
    (repeat c.args.min max c.args.greedy a)) (sym c.in_ok-most.was)
    (gives_repeat old new row middle next c.args.min c.in_ok-most.most c.args.greedy a
    c.known.ensures grows made.place in_next gives many))
    c.row_of_copies.ensures.grows c.row_of_copies.ensures.gives

pub place_of_up_to-loop-done-init : goal.place_of_up_to-loop-done-init
place_of_up_to-loop-done-init t c = record {
  grows = Grows-same c.args.rows.now;
  place = c.requires;
  next = c.requires;
  tells = tells_empty c.args.rows.now c.args.next;
}

pub place_of_up_to-loop-done-preserved : goal.place_of_up_to-loop-done-preserved
place_of_up_to-loop-done-preserved t c =
    let i = c.loop-done.invariant in
    let old = c.loop-done.rows in
    let between = c.row_of.new.rows in
    let third = c.choice.new.rows in
    let new = c.push.new.self in
    let next = c.args.next in
    let more = c.in_ok-more.ensures in
    let leave = c.row-leave.ensures in
    let made = c.in_ok-row.ensures in
    let row = c.in_ok-row.row in
    let push = c.in_ok-place.ensures in
    let grows = Grows-twice old between new more.grows
    (Grows-twice between third new made.grows (Grows-one third new row push.grows)) in record {
      grows = Grows-twice c.args.rows.now old new i.grows grows;
      place = push.inside;
      next = IsPlace-grows old new next grows i.next;
      tells = tells_up_to old between third new c.in_ok-more.more c.row-leave.result row
          c.in_ok-place.place c.loop-done.place next c.loop-done.done c.args.greedy
          (meaning c.args.sub.now) c.known.ensures leave.known push.known more.grows made.grows
          push.grows push.place i.place i.next more.gives leave.cells leave.leads
          made.lead made.either i.tells;
    }

pub place_of_up_to-returns-clause-tells : goal.place_of_up_to-returns-clause-tells
place_of_up_to-returns-clause-tells t c =
    let done : c.loop-done.done ≡ c.args.count = omega (arith, c.loop-done-test.false) in
    subst (λ n. TellsBefore c.loop-done.rows c.loop-done.place c.args.next
    (up_to c.args.greedy n (meaning c.args.sub.now))) done c.loop-done.invariant.tells
