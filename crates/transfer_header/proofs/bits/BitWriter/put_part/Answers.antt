use Rattle.std.proofs.Common.{◌≤◌, ◌+◌, ◌*◌, ◌≡◌, length, ap, arith, vec_len, vec_capacity}
use Rattle.transfer_header.specs.Bits.{Written}
use Rattle.transfer_header.proofs.Parts.{HoldsBits, shown, has_room, part_held, part_put, low_bits}
use Rattle.transfer_header.proofs.bits.BitWriter.put_part.Goals as goal

pub overflow_add-held : goal.overflow_add-held
overflow_add-held c =
    let w = c.self.inside in
    let s : HoldsBits w.bytes.items w.count w.held c.args.self.now.bits = shown w.bytes.items w.count w.held (vec_len w.bytes) (vec_capacity w.bytes) c.args.self.now c.self.view_is c.self.invariant in
    omega (arith, (part_held w.count w.held c.args.width c.args.number s.small (omega (arith, c.requires.narrow)) (omega (arith, s.short, c.requires.narrow))).1)

pub push_bytes-self-inside-requires-clause-within : goal.push_bytes-self-inside-requires-clause-within
push_bytes-self-inside-requires-clause-within c =
    let w = c.self.inside in
    let s : HoldsBits w.bytes.items w.count w.held c.args.self.now.bits = shown w.bytes.items w.count w.held (vec_len w.bytes) (vec_capacity w.bytes) c.args.self.now c.self.view_is c.self.invariant in
    let same : vec_capacity w.bytes ≡ c.args.self.now.capacity = ap (λ (x : Written). x.capacity) c.self.view_is in
    let fits : 8 * length w.bytes.items + (w.count + c.args.width) ≤ 8 * c.args.self.now.capacity = has_room w.bytes.items w.count w.held c.args.width c.args.self.now.capacity c.args.self.now.bits s c.requires.within in
    omega (arith, fits, same, w.bytes.ok.0)

pub invariant_of-self : goal.invariant_of-self
invariant_of-self c =
    let pushed = c.push_bytes-self-inside in
    (pushed.ensures.left, low_bits pushed.result _ pushed.ensures.left, pushed.ensures.are, pushed.ensures.within)

pub returns-clause-bits : goal.returns-clause-bits
returns-clause-bits c =
    let w = c.self.inside in
    let pushed = c.push_bytes-self-inside in
    let s : HoldsBits w.bytes.items w.count w.held c.args.self.now.bits = shown w.bytes.items w.count w.held (vec_len w.bytes) (vec_capacity w.bytes) c.args.self.now c.self.view_is c.self.invariant in
    part_put w.bytes.items pushed.new.bytes.items w.count w.held c.args.width c.args.number pushed.result c.args.self.now.bits s (omega (arith, c.requires.narrow)) (omega (arith, s.short, c.requires.narrow)) pushed.ensures.left pushed.ensures.bits
