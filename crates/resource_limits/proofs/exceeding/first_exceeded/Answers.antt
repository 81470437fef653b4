use Rattle.std.proofs.Common.{◌≡◌, sym, ◌∙◌}
use Rattle.resource_limits.specs.Kept.{first_excess, of_all, of_objects}
use Rattle.resource_limits.specs.declared.exceeding.LimitName.TheVariants.{Accesses, Stages, TableBits, Writeback, TransferBytes}
use Rattle.resource_limits.proofs.Kept.{found_in_turn, keeps_if_none, none_if_keeps}
use Rattle.resource_limits.proofs.exceeding.first_exceeded.Goals as goal

pub returns-clause-first : goal.returns-clause-first
returns-clause-first c =
    let counts = c.args.c.now in
    let limits = c.args.l.now in
    rw (
      c.or-4.ensures,
      c.or-3.ensures,
      c.or-2.ensures,
      c.or.ensures,
      c.of_objects-accesses.ensures,
      c.of_split-stages.ensures,
      c.of_split-table_bits.ensures,
      c.of_objects-writeback.ensures,
      c.of_split-transfer_bytes.ensures,
      c.from.ensures,
      c.from-2.ensures,
      c.from-3.ensures,
      c.from-4.ensures,
      c.from-5.ensures,
    )
    (found_in_turn (of_objects Accesses 1 0 counts.accesses) (of_objects Writeback limits.writeback 0 counts.writes)
    (of_all Stages limits.stages counts.stages) (of_all TableBits limits.table_bits counts.table_bits)
    (of_all TransferBytes limits.transfer_bytes counts.transfer_bytes))

pub returns-clause-none : goal.returns-clause-none
returns-clause-none c =
    let e : c.or-4.result ≡ first_excess c.args.c.now c.args.l.now = returns-clause-first c in
    (λ h. keeps_if_none c.args.c.now c.args.l.now (sym e ∙ h), λ h. e ∙ none_if_keeps c.args.c.now c.args.l.now h)
