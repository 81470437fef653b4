use Rattle.std.proofs.Common.{refl, arith}
use Rattle.flat_ir.specs.Program.{program_of}
use Rattle.replayer_tests.proofs.Writes.{few_writes}
use Rattle.replayer_tests.proofs.samples.job_of.Goals as goal

pub returns : goal.returns
returns c =
    let bounds = c.is_bounded.ensures.0 c.if-not-is_bounded.false in
    record {
      split = record {
        bounded = bounds;
        legal = c.in_ok-split.ensures.legal;
        kept = c.requires.kept;
        few = few_writes (program_of c.args.flat) c.in_ok-split.split 4096 bounds.few;
      };
      stages = c.in_ok-split.ensures.few_stages;
      writeback = omega arith;
      few = c.requires.few_packets;
      none = c.new.ensures;
      plain = refl;
      ends = refl;
    }
