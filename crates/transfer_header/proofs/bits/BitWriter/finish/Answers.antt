use Rattle.std.proofs.Common.{arith, vec_len, vec_capacity}
use Rattle.transfer_header.proofs.Parts.{HoldsBits, shown, last_byte, finished_full, finished_even}
use Rattle.transfer_header.proofs.bits.BitWriter.finish.Goals as goal

pub overflow_cast-held : goal.overflow_cast-held
overflow_cast-held c =
    let w = c.self.inside in
    let s : HoldsBits w.bytes.items w.count w.held c.args.self.bits = shown w.bytes.items w.count w.held (vec_len w.bytes) (vec_capacity w.bytes) c.args.self c.self.view_is c.self.invariant in
    omega (arith, (last_byte w.count w.held c.if-count-gt0.true s.short s.small).1)

pub returns-then-count-gt0-clause-items : goal.returns-then-count-gt0-clause-items
returns-then-count-gt0-clause-items c =
    let w = c.self.inside in
    let s : HoldsBits w.bytes.items w.count w.held c.args.self.bits = shown w.bytes.items w.count w.held (vec_len w.bytes) (vec_capacity w.bytes) c.args.self c.self.view_is c.self.invariant in
    finished_full w.bytes.items c.push_reserved.new.self.items w.count w.held c.args.self.bits s c.if-count-gt0.true c.push_reserved.ensures.items

pub returns-else-count-gt0-clause-items : goal.returns-else-count-gt0-clause-items
returns-else-count-gt0-clause-items c =
    let w = c.self.inside in
    let s : HoldsBits w.bytes.items w.count w.held c.args.self.bits = shown w.bytes.items w.count w.held (vec_len w.bytes) (vec_capacity w.bytes) c.args.self c.self.view_is c.self.invariant in
    finished_even w.bytes.items w.count w.held c.args.self.bits s c.if-count-gt0.false
