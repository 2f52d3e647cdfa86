-- A database may be passed to another thread, and several may read one at a time. Rattle shows `Send`
-- and `Sync` of a type from those of its fields, but not of `Hir`, which holds itself, nor of what
-- holds a `Hir`: these stand here, and what follows for the owners that stand behind handles.
use denote.Builtin.{u8, u16, u32, usize}
use denote.Enum.Declared as E
use denote.Param.Send.{IsSend, IsSync, sendable}
use denote.Param.Send.{enum_send, enum_sync, recorded_send, recorded_sync, struct_send, struct_sync}
use denote.Param.Send.{view_send, view_sync}
use denote.RattleType.{RattleType}
use denote.Struct.Declared as S
use Rattle.std.proofs.Crossing.{Arc-send, Arc-sync, Box-send, Box-sync, Vec-send, Vec-sync}
use Rattle.std.proofs.Crossing.{frees, send, sync}
use Rattle.std.proofs.MapsCrossing.{String-send, String-sync}
use Rattle.std.proofs.alloc.Global.TheSendSync as heap
use Rattle.std.proofs.option.Option.TheSendSync as option
use Rattle.std.proofs.string.String.TheSendSync as String-fields
use Rattle.std.specs.contracts.alloc.Global as Heap
use Rattle.std.specs.contracts.impls.GlobalAllocator.TheImpl.{ghosts}
use Rattle.std.specs.contracts.option.Option as Option
use Rattle.std.specs.contracts.string.String as string
use Rattle.regex_class.proofs.Class.TheSendSync as class
use Rattle.regex_dfa.proofs.dfa.Dfa.TheSendSync as dfa
use Rattle.regex_extract.proofs.frames.Frame.TheSendSync as frame
use Rattle.regex_hir.proofs.hir.Hir.TheLaws.TheKnot as knot
use Rattle.regex_hir.proofs.look.Look.TheSendSync as look
use Rattle.regex_hir.specs.contracts.hir.Hir as Hir
use Rattle.regex_literal.proofs.byte_set.ByteSet.TheSendSync as byte_set
use Rattle.regex_literal.proofs.caseless.Caseless.TheSendSync as caseless
use Rattle.regex_literal.proofs.ladder.Ladder.TheSendSync as ladder
use Rattle.regex_literal.proofs.prefilter.Prefilter.TheSendSync as prefilter
use Rattle.regex_meta.proofs.plan.Role.TheSendSync as role
use Rattle.regex_meta.specs.contracts.plan.Plan as Plan
use Rattle.regex_meta.specs.contracts.plan.Plans as Plans
use Rattle.regex_meta.specs.contracts.program.Program as Program
use Rattle.regex_meta.specs.contracts.signs.Signs as Signs
use Rattle.regex_syntax.proofs.Config.TheSendSync as config
use Rattle.regex.specs.contracts.pattern.Pattern as Source
use Rattle.regex.specs.contracts.string.regex.Regex as Regex
use Rattle.phone_base.proofs.text.Text.TheSendSync as text
use Rattle.once_cell.proofs.race.once_box.OnceBox.TheSendSync as once_box
use Rattle.phone_automaton.proofs.front_table.FrontTable.TheSendSync as front_table
use Rattle.phone_pattern.proofs.outline.Outline.TheSendSync as outline
use Rattle.phone_pattern.proofs.ruled.KeptRuled.TheSendSync as ruled
use Rattle.phone_pattern.specs.contracts.under_x.UnderX as UnderX
use Rattle.phone_pattern.specs.contracts.under_x.UnderX.TheInside as UnderX-in
use Rattle.phone_pattern.specs.contracts.plan.Plan as Plan-of-text
use Rattle.phone_pattern.specs.contracts.plan.Plan.TheInside as Plan-of-text-in
use Rattle.phone_pattern.specs.contracts.pattern.Pattern as Pattern
use Rattle.phone_pattern.specs.contracts.pattern.Pattern.TheInside as Pattern-in
use Rattle.phone_pattern.specs.contracts.leading.Leading as Leading
use Rattle.phone_pattern.specs.contracts.leading.Leading.TheInside as Leading-in
use Rattle.phone_pattern.specs.contracts.rules.FirstGroup as FirstGroup
use Rattle.phone_pattern.specs.contracts.rules.FirstGroup.TheInside as FirstGroup-in
use Rattle.phone_territory.proofs.by_kind.ByKind.TheSendSync as by_kind
use Rattle.phone_territory.specs.contracts.by_kind.ByKind as ByKind
use Rattle.phone_territory.specs.contracts.descriptor.Descriptor as Descriptor
use Rattle.phone_territory.specs.contracts.descriptor.Descriptor.TheInside as Descriptor-in
use Rattle.phone_territory.specs.contracts.format.Format as Format
use Rattle.phone_territory.specs.contracts.format.Format.TheInside as Format-in
use Rattle.phone_territory.specs.contracts.territory.Territory as Territory
use Rattle.phone_territory.specs.contracts.territory.Territory.TheInside as Territory-in
use Rattle.phone_plans.specs.contracts.plans.Plans as Database
use Rattle.phone_plans.specs.contracts.plans.Plans.TheInside as Database-in
use Rattle.phone_territory.specs.contracts.patterns.Patterns as Patterns
use Rattle.phone_territory.proofs.territory.CompiledParts.TheSendSync as parts
use Rattle.phone_plans.proofs.index.Index.TheSendSync as index
use Rattle.phone_prefixes.proofs.prefixes.Prefixes.TheSendSync as prefixes
use Rattle.phone_prefixes.specs.contracts.prefixes.Prefixes as Prefixes
use Rattle.phone_values.proofs.rules.Rules.TheSendSync as rules
use Rattle.phone_c_base.specs.contracts.opened.Opened as Opened
use Rattle.phone_c_base.specs.contracts.opened.Opened.TheInside as Opened-in
use Rattle.phone_c_base.specs.contracts.shared.Owner as Owner
use Rattle.phone_c_base.specs.contracts.shared.Owner.TheInside as Owner-in

-- ---- what may be passed to another thread
String-field-send : IsSend (string.the_field Heap.the_row ghosts).row
String-field-send = String-fields.the_field_send Heap.the_row ghosts send frees

Hir-field-send : IsSend (Hir.the_field).row
Hir-field-send =
    knot.send-Hir (Vec-send u8 (search sendable)) class.the_field_send look.the_field_send (search sendable)
    (option.the_field_send u32 (search sendable)) (search sendable) Box-send Vec-send

Hir-send : IsSend Hir.the_row
Hir-send = recorded_send (Hir.the_field).row _ _ (Hir.the_type).to_one Hir-field-send

Plan-field-send : IsSend (Plan.the_field).row
Plan-field-send =
    enum_send (E.shape Plan.the_type) (
      (
        role.the_field_send,
        (
          prefilter.the_send,
          (
            option.the_field_send _ frame.the_send,
            (option.the_field_send _ Hir-send, tt),
          ),
        ),
      ),
      (
        (ladder.the_field_send, tt),
        (
          tt,
          (
            tt,
            (
              tt,
              tt,
            ),
          ),
        ),
      ),
    )

Plan-send : IsSend Plan.the_row
Plan-send = recorded_send (Plan.the_field).row _ _ (Plan.the_type).to_one Plan-field-send

Plans-field-send : IsSend (Plans.the_field).row
Plans-field-send =
    struct_send (S.shape Plans.the_type) (Vec-send _ Plan-send, tt)

Signs-field-send : IsSend (Signs.the_field).row
Signs-field-send =
    struct_send (S.shape Signs.the_type) (
      caseless.the_send,
      (
        Vec-send u32 (search sendable),
        (
          Vec-send _ Hir-send,
          (Vec-send _ Hir-send, (Vec-send _ (Vec-send u32 (search sendable)), tt)),
        ),
      ),
    )

Signs-send : IsSend Signs.the_row
Signs-send = recorded_send (Signs.the_field).row _ _ (Signs.the_type).to_one Signs-field-send

Program-field-send : IsSend (Program.the_field).row
Program-field-send =
    struct_send (S.shape Program.the_type) (
      Hir-field-send,
      (
        dfa.the_field_send,
        (
          Plans-field-send,
          (
            option.the_field_send _ (Box-send _ Signs-send),
            (
              option.the_field_send _ byte_set.the_send,
              (
                search sendable,
                (
                  search sendable,
                  (option.the_field_send usize (search sendable), tt),
                ),
              ),
            ),
          ),
        ),
      ),
    )

Source-field-send : IsSend (Source.the_field).row
Source-field-send =
    struct_send (S.shape Source.the_type) (
      String-field-send,
      (
        config.the_field_send,
        (
          Vec-send _ (option.the_send _ String-send),
          (Program-field-send, tt),
        ),
      ),
    )

Regex-field-send : IsSend (Regex.the_field).row
Regex-field-send =
    struct_send (S.shape Regex.the_type) (Source-field-send, tt)

Regex-send : IsSend Regex.the_row
Regex-send = recorded_send (Regex.the_field).row _ _ (Regex.the_type).to_one Regex-field-send

UnderX-inside-send : IsSend UnderX-in.the_row
UnderX-inside-send = recorded_send (UnderX-in.the_field).row _ _ (UnderX-in.the_type).to_one
    (struct_send (S.shape UnderX-in.the_type) (Regex-field-send, tt))

UnderX-send : IsSend UnderX.the_row
UnderX-send = view_send _ _ _ _ _ UnderX-inside-send

Plan-of-text-inside-send : IsSend Plan-of-text-in.the_row
Plan-of-text-inside-send =
    recorded_send (Plan-of-text-in.the_field).row _ _ (Plan-of-text-in.the_type).to_one
    (struct_send (S.shape Plan-of-text-in.the_type) (
      heap.the_field_send,
      (
        text.the_send,
        (
          search sendable,
          (
            option.the_field_send _ front_table.the_send,
            (
              once_box.the_send _ outline.the_send,
              (once_box.the_send _ UnderX-send, tt),
            ),
          ),
        ),
      ),
    ))

Plan-of-text-send : IsSend Plan-of-text.the_row
Plan-of-text-send = view_send _ _ _ _ _ Plan-of-text-inside-send

-- ---- what several threads may read at once: what an `Arc` shares
String-field-sync : IsSync (string.the_field Heap.the_row ghosts).row
String-field-sync = String-fields.the_field_sync Heap.the_row ghosts sync

Hir-field-sync : IsSync (Hir.the_field).row
Hir-field-sync =
    knot.sync-Hir (Vec-sync u8 (search sendable)) class.the_field_sync look.the_field_sync (search sendable)
    (option.the_field_sync u32 (search sendable)) (search sendable) Box-sync Vec-sync

Hir-sync : IsSync Hir.the_row
Hir-sync = recorded_sync (Hir.the_field).row _ _ (Hir.the_type).to_one Hir-field-sync

Plan-field-sync : IsSync (Plan.the_field).row
Plan-field-sync =
    enum_sync (E.shape Plan.the_type) (
      (
        role.the_field_sync,
        (
          prefilter.the_sync,
          (
            option.the_field_sync _ frame.the_sync,
            (option.the_field_sync _ Hir-sync, tt),
          ),
        ),
      ),
      (
        (ladder.the_field_sync, tt),
        (
          tt,
          (
            tt,
            (
              tt,
              tt,
            ),
          ),
        ),
      ),
    )

Plan-sync : IsSync Plan.the_row
Plan-sync = recorded_sync (Plan.the_field).row _ _ (Plan.the_type).to_one Plan-field-sync

Plans-field-sync : IsSync (Plans.the_field).row
Plans-field-sync =
    struct_sync (S.shape Plans.the_type) (Vec-sync _ Plan-sync, tt)

Signs-field-sync : IsSync (Signs.the_field).row
Signs-field-sync =
    struct_sync (S.shape Signs.the_type) (
      caseless.the_sync,
      (
        Vec-sync u32 (search sendable),
        (
          Vec-sync _ Hir-sync,
          (Vec-sync _ Hir-sync, (Vec-sync _ (Vec-sync u32 (search sendable)), tt)),
        ),
      ),
    )

Signs-sync : IsSync Signs.the_row
Signs-sync = recorded_sync (Signs.the_field).row _ _ (Signs.the_type).to_one Signs-field-sync

Program-field-sync : IsSync (Program.the_field).row
Program-field-sync =
    struct_sync (S.shape Program.the_type) (
      Hir-field-sync,
      (
        dfa.the_field_sync,
        (
          Plans-field-sync,
          (
            option.the_field_sync _ (Box-sync _ Signs-sync),
            (
              option.the_field_sync _ byte_set.the_sync,
              (
                search sendable,
                (
                  search sendable,
                  (option.the_field_sync usize (search sendable), tt),
                ),
              ),
            ),
          ),
        ),
      ),
    )

Source-field-sync : IsSync (Source.the_field).row
Source-field-sync =
    struct_sync (S.shape Source.the_type) (
      String-field-sync,
      (
        config.the_field_sync,
        (
          Vec-sync _ (option.the_sync _ String-sync),
          (Program-field-sync, tt),
        ),
      ),
    )

Regex-field-sync : IsSync (Regex.the_field).row
Regex-field-sync =
    struct_sync (S.shape Regex.the_type) (Source-field-sync, tt)

Regex-sync : IsSync Regex.the_row
Regex-sync = recorded_sync (Regex.the_field).row _ _ (Regex.the_type).to_one Regex-field-sync

UnderX-inside-sync : IsSync UnderX-in.the_row
UnderX-inside-sync = recorded_sync (UnderX-in.the_field).row _ _ (UnderX-in.the_type).to_one
    (struct_sync (S.shape UnderX-in.the_type) (Regex-field-sync, tt))

UnderX-sync : IsSync UnderX.the_row
UnderX-sync = view_sync _ _ _ _ _ UnderX-inside-sync

Plan-of-text-inside-sync : IsSync Plan-of-text-in.the_row
Plan-of-text-inside-sync =
    recorded_sync (Plan-of-text-in.the_field).row _ _ (Plan-of-text-in.the_type).to_one
    (struct_sync (S.shape Plan-of-text-in.the_type) (
      heap.the_field_sync,
      (
        text.the_sync,
        (
          search sendable,
          (
            option.the_field_sync _ front_table.the_sync,
            (
              once_box.the_sync _ outline.the_send outline.the_sync,
              (once_box.the_sync _ UnderX-send UnderX-sync, tt),
            ),
          ),
        ),
      ),
    ))

Plan-of-text-sync : IsSync Plan-of-text.the_row
Plan-of-text-sync = view_sync _ _ _ _ _ Plan-of-text-inside-sync

-- ---- what holds these: passed to another thread
Pattern-inside-send : IsSend Pattern-in.the_row
Pattern-inside-send = recorded_send (Pattern-in.the_field).row _ _ (Pattern-in.the_type).to_one
    (struct_send (S.shape Pattern-in.the_type)
    (Arc-send _ Plan-of-text-send Plan-of-text-sync, tt))

Pattern-send : IsSend Pattern.the_row
Pattern-send = view_send _ _ _ _ _ Pattern-inside-send

Leading-inside-send : IsSend Leading-in.the_row
Leading-inside-send = recorded_send (Leading-in.the_field).row _ _ (Leading-in.the_type).to_one
    (struct_send (S.shape Leading-in.the_type)
    (Vec-send _ Pattern-send, (option.the_field_send _ Pattern-send, tt)))

Leading-send : IsSend Leading.the_row
Leading-send = view_send _ _ _ _ _ Leading-inside-send

FirstGroup-inside-send : IsSend FirstGroup-in.the_row
FirstGroup-inside-send = recorded_send (FirstGroup-in.the_field).row _ _ (FirstGroup-in.the_type).to_one
    (struct_send (S.shape FirstGroup-in.the_type) (Pattern-send, tt))

FirstGroup-send : IsSend FirstGroup.the_row
FirstGroup-send = view_send _ _ _ _ _ FirstGroup-inside-send

Descriptor-inside-send : IsSend Descriptor-in.the_row
Descriptor-inside-send = recorded_send (Descriptor-in.the_field).row _ _ (Descriptor-in.the_type).to_one
    (struct_send (S.shape Descriptor-in.the_type) (
      Pattern-send,
      (
        Vec-send u16 (search sendable),
        (
          Vec-send u16 (search sendable),
          (option.the_field_send _ text.the_send, tt),
        ),
      ),
    ))

Descriptor-send : IsSend Descriptor.the_row
Descriptor-send = view_send _ _ _ _ _ Descriptor-inside-send

Descriptors-send : IsSend (ByKind.the_row Descriptor.the_row)
Descriptors-send = by_kind.the_send _ Descriptor-send

Format-inside-send : IsSend Format-in.the_row
Format-inside-send = recorded_send (Format-in.the_field).row _ _ (Format-in.the_type).to_one
    (struct_send (S.shape Format-in.the_type) (
      Pattern-send,
      (
        text.the_send,
        (
          Leading-send,
          (
            option.the_field_send _ text.the_send,
            (search sendable, (option.the_field_send _ text.the_send, (ruled.the_field_send, tt))),
          ),
        ),
      ),
    ))

Format-send : IsSend Format.the_row
Format-send = view_send _ _ _ _ _ Format-inside-send

Patterns-field-send : IsSend (Patterns.the_field).row
Patterns-field-send =
    struct_send (S.shape Patterns.the_type) (
      option.the_field_send _ Pattern-send,
      (
        option.the_field_send _ Pattern-send,
        (
          option.the_field_send _ Pattern-send,
          (
            Vec-send _ Format-send,
            (
              Vec-send _ Format-send,
              (search sendable, tt),
            ),
          ),
        ),
      ),
    )

Territory-inside-send : IsSend Territory-in.the_row
Territory-inside-send = recorded_send (Territory-in.the_field).row _ _ (Territory-in.the_type).to_one
    (struct_send (S.shape Territory-in.the_type) (
      heap.the_field_send,
      (
        Descriptors-send,
        (
          Patterns-field-send,
          (
            parts.the_field_send,
            tt,
          ),
        ),
      ),
    ))

Territory-send : IsSend Territory.the_row
Territory-send = view_send _ _ _ _ _ Territory-inside-send

Database-inside-send : IsSend Database-in.the_row
Database-inside-send = recorded_send (Database-in.the_field).row _ _ (Database-in.the_type).to_one
    (struct_send (S.shape Database-in.the_type) (
      heap.the_field_send,
      (
        Vec-send _ Territory-send,
        (
          index.the_field_send,
          (
            FirstGroup-send,
            tt,
          ),
        ),
      ),
    ))

pub Database-send : IsSend Database.the_row
Database-send = view_send _ _ _ _ _ Database-inside-send

-- ---- and read by several
Pattern-inside-sync : IsSync Pattern-in.the_row
Pattern-inside-sync = recorded_sync (Pattern-in.the_field).row _ _ (Pattern-in.the_type).to_one
    (struct_sync (S.shape Pattern-in.the_type)
    (Arc-sync _ Plan-of-text-send Plan-of-text-sync, tt))

Pattern-sync : IsSync Pattern.the_row
Pattern-sync = view_sync _ _ _ _ _ Pattern-inside-sync

Leading-inside-sync : IsSync Leading-in.the_row
Leading-inside-sync = recorded_sync (Leading-in.the_field).row _ _ (Leading-in.the_type).to_one
    (struct_sync (S.shape Leading-in.the_type)
    (Vec-sync _ Pattern-sync, (option.the_field_sync _ Pattern-sync, tt)))

Leading-sync : IsSync Leading.the_row
Leading-sync = view_sync _ _ _ _ _ Leading-inside-sync

FirstGroup-inside-sync : IsSync FirstGroup-in.the_row
FirstGroup-inside-sync = recorded_sync (FirstGroup-in.the_field).row _ _ (FirstGroup-in.the_type).to_one
    (struct_sync (S.shape FirstGroup-in.the_type) (Pattern-sync, tt))

FirstGroup-sync : IsSync FirstGroup.the_row
FirstGroup-sync = view_sync _ _ _ _ _ FirstGroup-inside-sync

Descriptor-inside-sync : IsSync Descriptor-in.the_row
Descriptor-inside-sync = recorded_sync (Descriptor-in.the_field).row _ _ (Descriptor-in.the_type).to_one
    (struct_sync (S.shape Descriptor-in.the_type) (
      Pattern-sync,
      (
        Vec-sync u16 (search sendable),
        (
          Vec-sync u16 (search sendable),
          (option.the_field_sync _ text.the_sync, tt),
        ),
      ),
    ))

Descriptor-sync : IsSync Descriptor.the_row
Descriptor-sync = view_sync _ _ _ _ _ Descriptor-inside-sync

Descriptors-sync : IsSync (ByKind.the_row Descriptor.the_row)
Descriptors-sync = by_kind.the_sync _ Descriptor-sync

Format-inside-sync : IsSync Format-in.the_row
Format-inside-sync = recorded_sync (Format-in.the_field).row _ _ (Format-in.the_type).to_one
    (struct_sync (S.shape Format-in.the_type) (
      Pattern-sync,
      (
        text.the_sync,
        (
          Leading-sync,
          (
            option.the_field_sync _ text.the_sync,
            (search sendable, (option.the_field_sync _ text.the_sync, (ruled.the_field_sync, tt))),
          ),
        ),
      ),
    ))

Format-sync : IsSync Format.the_row
Format-sync = view_sync _ _ _ _ _ Format-inside-sync

Patterns-field-sync : IsSync (Patterns.the_field).row
Patterns-field-sync =
    struct_sync (S.shape Patterns.the_type) (
      option.the_field_sync _ Pattern-sync,
      (
        option.the_field_sync _ Pattern-sync,
        (
          option.the_field_sync _ Pattern-sync,
          (
            Vec-sync _ Format-sync,
            (
              Vec-sync _ Format-sync,
              (search sendable, tt),
            ),
          ),
        ),
      ),
    )

Territory-inside-sync : IsSync Territory-in.the_row
Territory-inside-sync = recorded_sync (Territory-in.the_field).row _ _ (Territory-in.the_type).to_one
    (struct_sync (S.shape Territory-in.the_type) (
      heap.the_field_sync,
      (
        Descriptors-sync,
        (
          Patterns-field-sync,
          (
            parts.the_field_sync,
            tt,
          ),
        ),
      ),
    ))

Territory-sync : IsSync Territory.the_row
Territory-sync = view_sync _ _ _ _ _ Territory-inside-sync

Database-inside-sync : IsSync Database-in.the_row
Database-inside-sync = recorded_sync (Database-in.the_field).row _ _ (Database-in.the_type).to_one
    (struct_sync (S.shape Database-in.the_type) (
      heap.the_field_sync,
      (
        Vec-sync _ Territory-sync,
        (
          index.the_field_sync,
          (
            FirstGroup-sync,
            tt,
          ),
        ),
      ),
    ))

pub Database-sync : IsSync Database.the_row
Database-sync = view_sync _ _ _ _ _ Database-inside-sync

-- ---- what stands behind a handle
Owner-inside-send : (T : RattleType) → IsSend T → IsSync T → IsSend (Owner-in.the_row T)
Owner-inside-send T send sync = recorded_send (Owner-in.the_field T).row _ _ (Owner-in.the_type T).to_one
    (struct_send (S.shape (Owner-in.the_type T)) (Arc-send T send sync, tt))

Owner-send : (T : RattleType) → IsSend T → IsSync T → IsSend (Owner.the_row T)
Owner-send T send sync = view_send _ _ _ _ _ (Owner-inside-send T send sync)

Database-owner-send : IsSend (Owner.the_row Database.the_row)
Database-owner-send = Owner-send Database.the_row Database-send Database-sync

Opened-inside-send : IsSend Opened-in.the_row
Opened-inside-send = recorded_send (Opened-in.the_field).row _ _ (Opened-in.the_type).to_one
    (struct_send (S.shape Opened-in.the_type) (Database-owner-send, (rules.the_field_send, tt)))

pub Opened-send : IsSend Opened.the_row
Opened-send = view_send _ _ _ _ _ Opened-inside-send

pub Prefixes-owner-send : IsSend (Owner.the_row Prefixes.the_row)
Prefixes-owner-send = Owner-send Prefixes.the_row prefixes.the_send prefixes.the_sync
