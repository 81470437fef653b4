use Rattle.std.proofs.Common.{◌∙◌, refl, sym}
use Rattle.flat_ir.specs.Registers.{packet_of}
use Rattle.transfer_header.specs.Registers.{content_of, value_in}
use Rattle.transfer_header.specs.Values.{low_bits}
use Rattle.switch_ir.specs.Code.{code_of}
use Rattle.switch_ir.specs.declared.port.UpEnd.TheVariants.{Finished}
use Rattle.switch_machine.specs.Numbers.{reads_by}
use Rattle.switch_machine.proofs.PassEnds.{before_of, ends_on, ends_up_on, is_of, sent_on, writable_on}
use Rattle.switch_machine.proofs.Laws.{what_goes_up_fits}
use Rattle.switch_machine.proofs.LoadedCode.{ranged_of}
use Rattle.transfer_header.proofs.Laws.{frames_of_low_bits-frame}
use Rattle.switch_machine.proofs.loaded_pass.LoadedPass.end.Goals as goal

pub pack_up-requires-clause-fits : goal.pack_up-requires-clause-fits
pack_up-requires-clause-fits c =
    let l = c.args.self.now in
    let code = code_of c.args.code.now in
    let before = before_of l.side code (reads_by l.numbering (content_of l.registers)) (sym c.requires.leaves ∙ c.if-leaves.true) in
    (what_goes_up_fits code l c.requires.pass l.registers refl before).among

pub returns-then-leaves : goal.returns-then-leaves
returns-then-leaves c = record {
  ends = λ reads same.
      let l = c.args.self.now in
      let code = code_of c.args.code.now in
      let values = value_in l.registers in
      let arrival = c.args.arrival.now in
      let bytes = arrival.bytes.now in
      let left = sym c.requires.leaves ∙ c.if-leaves.true in
      let is = frames_of_low_bits-frame 1 code.up c.args.number arrival.port values bytes c.ranges.number.fits c.fits.ensures c.requires.size in
      record {
        goes = refl;
        of = rw (before_of l.side code (reads_by l.numbering (content_of l.registers)) left) tt;
        frame = (low_bits values, rw c.in_ok-frame.ensures.bytes is);
        told = ends_up_on code l.numbering l.registers l.side c.requires.pass.can c.requires.pass.ordered (ranged_of code l c.requires.pass) left c.args.number (packet_of arrival) c.in_ok-frame.frame c.in_ok-frame.ensures.reading reads same;
      };
}

pub leave-requires-clause-writable : goal.leave-requires-clause-writable
leave-requires-clause-writable c = writable_on c.args.self.now.side c.args.code.now c.out_of-out.result.now c.out_of-out.ensures c.requires.pass.can

pub returns : goal.returns
returns c = record {
  ends = λ reads same.
      let l = c.args.self.now in
      let code = code_of c.args.code.now in
      let packet = packet_of c.args.arrival.now in
      record {
        goes = refl;
        of = is_of l.side (Finished c.leave.result) tt;
        frame = tt;
        told = ends_on code l.numbering l.registers l.side
            (sym c.requires.leaves ∙ c.if-leaves.false) c.args.number packet c.leave.result
            (c.leave.ensures ∙ sent_on l.side c.args.code.now c.out_of-out.result.now c.out_of-out.ensures (reads_by l.numbering (content_of l.registers)) packet) reads same;
      };
}
