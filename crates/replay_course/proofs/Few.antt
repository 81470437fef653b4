-- How many commands and events there are at most.
use Rattle.std.proofs.Common.{◌<◌, ◌≤◌, ◌+◌, ◌*◌, ◌^◌, ℕ, arith, length}
use Rattle.std.proofs.Math.Nat.{mul-le-mul}
use Rattle.split_model.specs.Split.{post_stage, pre_stage}
use Rattle.replay_contracts.specs.Inputs.{Inputs, setup_for}
use Rattle.replay_course.specs.Going.{IsPrepared}
use Rattle.lemmas.proofs.Tests.{if_within}
use Rattle.switch_ir.proofs.PlannedPasses.{low_highest}

pub commands_by : (n w : ℕ) → n ≤ 16384 → w ≤ 4096 → n * (3 * w + 2) < 2 ^ 32
commands_by n w packets writes =
    let each : 3 * w + 2 ≤ 12290 = omega arith in
    let all = mul-le-mul packets each in
    omega arith

pub events_by : (n w p q : ℕ) → n ≤ 16384 → w ≤ 4096 → p ≤ 4096 → q ≤ 4096 → n * (4 + p + q + 3 * (3 * w + 2)) < 2 ^ 30
events_by n w p q packets writes pre post =
    let each : 4 + p + q + 3 * (3 * w + 2) ≤ 45066 = omega arith in
    let all = mul-le-mul packets each in
    omega arith

pub few_pre : (x : Inputs) → IsPrepared x → (setup_for x).pre_stages ≤ 4096
few_pre x prepared = if_within x.manner.fine _ 4096 (low_highest (pre_stage x.split) 4096 prepared.stages.pre (length x.program.code))

pub few_post : (x : Inputs) → IsPrepared x → (setup_for x).post_stages ≤ 4096
few_post x prepared = if_within x.manner.fine _ 4096 (low_highest (post_stage x.split) 4096 prepared.stages.post (length x.program.code))
