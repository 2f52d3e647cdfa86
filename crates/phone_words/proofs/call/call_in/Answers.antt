use Rattle.std.proofs.Common.{◌∙◌, ap, inr, option_map, refl, sym}
use Rattle.phone_words.specs.Parts.{all_said, fault, told}
use Rattle.phone_words.proofs.Steps.{byte_is, count_is, encoding_is, level_is, misfit_is, no_byte}
use Rattle.phone_words.proofs.Steps.{no_count, no_encoding, no_level, no_rules, rules_are}
use Rattle.phone_words.proofs.call.call_in.Goals as goal

pub returns-in-Some-clause-refused : goal.returns-in-Some-clause-refused
returns-in-Some-clause-refused c =
    inr (misfit_is (all_said c.args.parts.now) _
    (sym c.misfit.ensures ∙ ap (option_map fault) c.in-Some.is))

pub returns-in-Err-clause-refused : goal.returns-in-Err-clause-refused
returns-in-Err-clause-refused c =
    let m = sym c.misfit.ensures ∙ ap (option_map fault) c.in_default.is in
    inr (no_rules (all_said c.args.parts.now) _ m (sym c.rules_of.ensures ∙ ap told c.in-Err.is))

pub returns-in-Err-skipped_of-clause-refused : goal.returns-in-Err-skipped_of-clause-refused
returns-in-Err-skipped_of-clause-refused c =
    let m = sym c.misfit.ensures ∙ ap (option_map fault) c.in_default.is in
    let r = rules_are (all_said c.args.parts.now) c.in-Ok.rules m
    (sym c.rules_of.ensures ∙ ap told c.in-Ok.is) in
    inr (no_count (all_said c.args.parts.now) c.in-Ok.rules _ r
    (sym c.skipped_of.ensures ∙ ap told c.in-Err-skipped_of.is))

pub returns-in-Err-delimiter_of-clause-refused : goal.returns-in-Err-delimiter_of-clause-refused
returns-in-Err-delimiter_of-clause-refused c =
    let m = sym c.misfit.ensures ∙ ap (option_map fault) c.in_default.is in
    let r = rules_are (all_said c.args.parts.now) c.in-Ok.rules m
    (sym c.rules_of.ensures ∙ ap told c.in-Ok.is) in
    let s = count_is (all_said c.args.parts.now) c.in-Ok.rules c.in-Ok-skipped_of.count r
    (sym c.skipped_of.ensures ∙ ap told c.in-Ok-skipped_of.is) in
    inr (no_byte (all_said c.args.parts.now) c.in-Ok.rules c.in-Ok-skipped_of.count _ s
    (sym c.delimiter_of.ensures ∙ ap told c.in-Err-delimiter_of.is))

pub returns-in-Err-encoding_of-clause-refused : goal.returns-in-Err-encoding_of-clause-refused
returns-in-Err-encoding_of-clause-refused c =
    let m = sym c.misfit.ensures ∙ ap (option_map fault) c.in_default.is in
    let r = rules_are (all_said c.args.parts.now) c.in-Ok.rules m
    (sym c.rules_of.ensures ∙ ap told c.in-Ok.is) in
    let s = count_is (all_said c.args.parts.now) c.in-Ok.rules c.in-Ok-skipped_of.count r
    (sym c.skipped_of.ensures ∙ ap told c.in-Ok-skipped_of.is) in
    let d = byte_is (all_said c.args.parts.now) c.in-Ok.rules c.in-Ok-skipped_of.count
    c.in-Ok-delimiter_of.byte s (sym c.delimiter_of.ensures ∙ ap told c.in-Ok-delimiter_of.is) in
    inr (no_encoding (all_said c.args.parts.now) c.in-Ok.rules c.in-Ok-skipped_of.count
    c.in-Ok-delimiter_of.byte _ d (sym c.encoding_of.ensures ∙ ap told c.in-Err-encoding_of.is))

pub returns-in-Err-level_of-clause-refused : goal.returns-in-Err-level_of-clause-refused
returns-in-Err-level_of-clause-refused c =
    let ps = all_said c.args.parts.now in
    let m = sym c.misfit.ensures ∙ ap (option_map fault) c.in_default.is in
    let r = rules_are ps c.in-Ok.rules m (sym c.rules_of.ensures ∙ ap told c.in-Ok.is) in
    let s = count_is ps c.in-Ok.rules c.in-Ok-skipped_of.count r
    (sym c.skipped_of.ensures ∙ ap told c.in-Ok-skipped_of.is) in
    let d = byte_is ps c.in-Ok.rules c.in-Ok-skipped_of.count c.in-Ok-delimiter_of.byte s
    (sym c.delimiter_of.ensures ∙ ap told c.in-Ok-delimiter_of.is) in
    let e = encoding_is ps c.in-Ok.rules c.in-Ok-skipped_of.count c.in-Ok-delimiter_of.byte
    c.in-Ok-encoding_of.encoding d (sym c.encoding_of.ensures ∙ ap told c.in-Ok-encoding_of.is) in
    inr (no_level ps c.in-Ok.rules c.in-Ok-skipped_of.count c.in-Ok-delimiter_of.byte
    c.in-Ok-encoding_of.encoding _ e (sym c.level_of.ensures ∙ ap told c.in-Err-level_of.is))

pub returns-clause-call : goal.returns-clause-call
returns-clause-call c =
    let ps = all_said c.args.parts.now in
    let m = sym c.misfit.ensures ∙ ap (option_map fault) c.in_default.is in
    let r = rules_are ps c.in-Ok.rules m (sym c.rules_of.ensures ∙ ap told c.in-Ok.is) in
    let s = count_is ps c.in-Ok.rules c.in-Ok-skipped_of.count r
    (sym c.skipped_of.ensures ∙ ap told c.in-Ok-skipped_of.is) in
    let d = byte_is ps c.in-Ok.rules c.in-Ok-skipped_of.count c.in-Ok-delimiter_of.byte s
    (sym c.delimiter_of.ensures ∙ ap told c.in-Ok-delimiter_of.is) in
    let e = encoding_is ps c.in-Ok.rules c.in-Ok-skipped_of.count c.in-Ok-delimiter_of.byte
    c.in-Ok-encoding_of.encoding d (sym c.encoding_of.ensures ∙ ap told c.in-Ok-encoding_of.is) in
    let l = level_is ps c.in-Ok.rules c.in-Ok-skipped_of.count c.in-Ok-delimiter_of.byte
    c.in-Ok-encoding_of.encoding c.in-Ok-level_of.level e
    (sym c.level_of.ensures ∙ ap told c.in-Ok-level_of.is) in
    record {
      meant = _;
      means = l;
      says = record {
        command = c.command_of.ensures;
        rules = refl;
        skipped = refl;
        encoding = refl;
        level = refl;
        lenient = c.has.ensures;
        delimiter = c.table_of.ensures.delimiter;
        table = c.table_of.ensures.table;
        database = c.value.ensures;
        short_database = c.value-2.ensures;
        alternates = c.value-3.ensures;
        output = c.value-4.ensures;
        operands = c.in_ok-operands.ensures;
      };
    }
