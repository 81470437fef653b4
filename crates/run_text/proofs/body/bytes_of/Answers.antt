use Rattle.std.proofs.Common.{ap, ◌∙◌, length, arith}
use Rattle.run_text.proofs.Bodies.{half, whole_written}
use Rattle.run_text.proofs.body.bytes_of.Goals as goal

pub returns : goal.returns
returns c = λ found h.
    let size = half c.args.digits.now found h in
    let items = ap length c.as_mut_slice.ensures.value in
    whole_written c.fill.new.bytes c.in_ok-bytes.bytes.items c.in_ok-bytes.bytes.len (omega arith) (omega arith) ∙ c.fill.ensures found h (omega (arith, size, c.in_ok-bytes.ensures.len, c.as_mut_slice.ensures.len))
