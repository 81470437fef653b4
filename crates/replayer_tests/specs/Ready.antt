-- A job with which a replayer can begin, and which can be replayed over links.
use Rattle.std.specs.Prelude.{◌≡◌, ◌≤◌, [], false, length}
use Rattle.flat_ir.specs.Program.{program_of}
use Rattle.run_model.specs.Sizes.{most_packets}
use Rattle.split_answers.specs.Whole.{IsSplit}
use Rattle.split_model.specs.Bounds.{HasFewStages}
use Rattle.replay_contracts.specs.declared.job.Job.{Job}

pub record IsReady (job : Job) : Type 0 where
  pub split : IsSplit (program_of job.flat) job.split job.writeback
  pub stages : HasFewStages job.split
  pub writeback : job.writeback ≤ 65536
  pub few : length job.packets ≤ most_packets
  pub none : job.events ≡ []
  pub plain : job.fine ≡ false
  pub ends : job.drain ≡ false
