use Rattle.std.proofs.Common.{◌-◌, ◌++◌, ◌∷◌, [], refl, sym, ap, ◌∙◌, arith, append-nil}
use Rattle.switch_ir.specs.declared.journal.Entry.TheVariants as entry
use Rattle.switch_ir.specs.Journal.{JournalState}
use Rattle.switch_ir.proofs.Journals.{kept}
use Rattle.switch_ir.proofs.journal.Journal.push_command.Goals as goal

pub invariant_of-self : goal.invariant_of-self
invariant_of-self c =
    let j = c.self.inside in
    let parts = c.command_parts-call.ensures in (
      (kept c.self.inside.bytes.items _ _ _ [] refl c.push_reserved.ensures.items refl c.put_numbers.ensures.items c.put_numbers-2.ensures.items
          (sym (append-nil j.bytes.items)) parts.entry parts.short parts.count refl c.self.invariant.0).0,
      omega arith,
      omega (arith, parts.bounded),
    )

pub returns : goal.returns
returns c =
    let j = c.self.inside in
    let parts = c.command_parts-call.ensures in
    ap (λ es. record { entries = es; spare = j.spare - 1 })
    (kept c.self.inside.bytes.items _ _ _ [] refl c.push_reserved.ensures.items refl c.put_numbers.ensures.items c.put_numbers-2.ensures.items
    (sym (append-nil j.bytes.items)) parts.entry parts.short parts.count refl c.self.invariant.0).1
    ∙ ap (λ (state : JournalState). record { entries = state.entries ++ entry.Command c.args.command.now c.args.end ∷ []; spare = state.spare - 1 }) c.self.view_is
