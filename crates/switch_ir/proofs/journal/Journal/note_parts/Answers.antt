use Rattle.std.proofs.Common.{◌++◌, ◌∷◌, [], ap, ◌∙◌, arith}
use Rattle.switch_ir.specs.Journal.{JournalState, entry_of}
use Rattle.switch_ir.proofs.Journals.{kept}
use Rattle.switch_ir.proofs.journal.Journal.note_parts.Goals as goal

pub invariant_of-self-2 : goal.invariant_of-self-2
invariant_of-self-2 c =
    let room = c.in_ok-take_room.ensures in
    let parts = c.parts-call.ensures in (
      (kept c.self.inside.bytes.items _ _ _ (c.parts-call.result.3.now ++ c.parts-call.result.4.now) c.take_room.ensures.marks c.push_reserved.ensures.items
          c.take_room.ensures.numbers c.put_numbers.ensures.items c.put_numbers-2.ensures.items
          c.in_ok-bytes.ensures.ok parts.entry parts.short parts.count c.in_ok-bytes.ensures.count c.self.invariant.0).0,
      omega (arith, room.marks_room),
      omega (arith, room.numbers_room, parts.bounded),
    )

pub returns-clause-ok : goal.returns-clause-ok
returns-clause-ok c =
    let parts = c.parts-call.ensures in
    ap (λ es. record { entries = es; spare = c.self.inside.spare })
    (kept c.self.inside.bytes.items _ _ _ (c.parts-call.result.3.now ++ c.parts-call.result.4.now) c.take_room.ensures.marks c.push_reserved.ensures.items
    c.take_room.ensures.numbers c.put_numbers.ensures.items c.put_numbers-2.ensures.items
    c.in_ok-bytes.ensures.ok parts.entry parts.short parts.count c.in_ok-bytes.ensures.count c.self.invariant.0).1
    ∙ ap (λ (state : JournalState). record { entries = state.entries ++ entry_of c.args.call.now ∷ []; spare = state.spare }) c.self.view_is
