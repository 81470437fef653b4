use Rattle.std.proofs.Common.{◌∙◌}
use Rattle.transfer_header.specs.Values.{value_by}
use Rattle.transfer_header.specs.Registers.{value_in}
use Rattle.transfer_header.proofs.WholeFrames.{frames_of_equal_values}
use Rattle.transfer_header.proofs.frame.pack_down_in.Goals as goal

pub returns-clause-reading : goal.returns-clause-reading
returns-clause-reading c reads holds =
    let a = c.args in
    c.pack.ensures ∙ frames_of_equal_values 2 a.layout.now a.number a.port (value_in a.values.now) (value_by reads) a.packet.now holds
