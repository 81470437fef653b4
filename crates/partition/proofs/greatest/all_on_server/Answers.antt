use Rattle.std.proofs.Common.{◌≡◌, length, replicate, sym, arith}
use Rattle.std.proofs.lemmas.List.{length-map}
use Rattle.std.proofs.lemmas.Grind.{common_steps}
use Rattle.flat_ir.specs.Program.{program_of, step_of}
use Rattle.partition.proofs.Lawful.{left}
use Rattle.partition.proofs.Server.{served}
use Rattle.partition.proofs.greatest.all_on_server.Goals as goal

pub returns : goal.returns
returns c =
    let split = c.from.result in
    let is : split ≡ replicate (length c.args.f.now.code) left = grind (arith, common_steps) in
    let s = served (program_of c.args.f.now) (length c.args.f.now.code) split is (sym (length-map c.args.f.now.code step_of)) in
    record { greatest = s.greatest; legal = s.legal; parts = is; stages = s.low; unseen = s.unseen_all }
