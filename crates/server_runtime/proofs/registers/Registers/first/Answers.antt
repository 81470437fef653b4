use Rattle.std.proofs.Common.{◌≡◌, ◌<◌, length, slice_index, sym, ap, ◌∙◌, arith}
use Rattle.std.proofs.lemmas.Grind.{get_or_default_zero}
use Rattle.std.proofs.lemmas.List.{get_or_past}
use Rattle.flat_ir.specs.Program.{program_of}
use Rattle.server_runtime.specs.Registers.{seat_in}
use Rattle.server_runtime.proofs.Seats.{seat_reads}
use Rattle.server_runtime.proofs.Steps.{code_length}
use Rattle.server_runtime.proofs.registers.Registers.first.Goals as goal

pub returns-else-place-numbers : goal.returns-else-place-numbers
returns-else-place-numbers c =
    let self = c.args.self.now in
    let flat = self.whole.now.flat in
    let f = program_of flat in
    let values = self.values.now in
    let i = c.args.instruction in
    let lt : i < length f.code = omega (arith, c.requires, code_length flat) in
    let seat : c.index.result.now ≡ seat_in f values i =
    c.index.ensures ∙ get_or_default_zero self.whole.now.seats.items i c.index.result.now (omega (arith, lt, self.seats)) ∙ self.seat i lt in
    sym (get_or_past values.numbers c.index.result.now 0 (omega (arith, c.if-place-numbers.false, ap length c.as_slice-numbers.ensures.numbers)))
    ∙ ap (slice_index values.numbers) seat ∙ seat_reads f values i c.as_slice-numbers.ensures.bounded
