-- What the server makes of a frame comes to what the split program says of it.
use Rattle.std.proofs.Common.{◌≡◌, ◌<◌, ◌≤◌, ◌+◌, ◌-◌, ◌*◌, ◌^◌, ℕ, suc, zero, Bool, true, false, List, [], ◌∷◌, ◌++◌, Some, refl, sym, ap, subst, ◌∙◌, arith, length}
use Rattle.std.specs.Prelude.{slice_get, slice_set, remove, if◌then◌else◌}
use Rattle.std.specs.List.{AllByRecursion as Each}
use Rattle.std.proofs.lemmas.Option.{slice_get_within}
use Rattle.std.proofs.Math.Nat.{mul-le-mul}
use Rattle.flat_ir.specs.Program.{step_at}
use Rattle.split_model.specs.Counts.{count_below}
use Rattle.split_model.specs.Layouts.{down_layout, up_layout}
use Rattle.transfer_header.specs.Frames.{IsFrame}
use Rattle.writeback_table.specs.declared.command.Update.{Update}
use Rattle.output_commit.specs.Batches.{commands_in}
use Rattle.output_commit.specs.Commit.{Commit, IsInOrder, batch_of, commands, with_output}
use Rattle.output_commit.specs.Laws.{changes_in, versions_in}
use Rattle.output_commit.specs.declared.output.Output.{Output}
use Rattle.run_model.specs.declared.event.Event.TheVariants as event
use Rattle.run_model.specs.declared.fate.Fate.{Fate}
use Rattle.server_runtime.specs.declared.served.Served.{Served}
use Rattle.server_runtime.specs.declared.server.Server.{Server as Runtime}
use Rattle.server_runtime.specs.Serving.{Server, IsServed, IsUpdateIn, evaluated_steps, followed_writes, is_followed, served_frame, served_store, served_updates, version_after}
use Rattle.server_runtime.specs.Views.{server_of}
use Rattle.switch_ir.specs.Port.{PortState, IsUpdateOf}
use Rattle.split_answers.specs.Whole.{IsSplit}
use Rattle.replay_contracts.specs.Inputs.{Inputs, code_for, setup_for, whole}
use Rattle.replay_contracts.specs.Replayer.{stepped_by}
use Rattle.replay_contracts.specs.declared.job.Stepped.TheVariants.{Did}
use Rattle.replay_course.specs.Fates as fates_of
use Rattle.replay_course.specs.declared.course.Course.{Course}
use Rattle.replay_course.specs.Going.{HasAdvanced, CanGoOn, IsSound, MadeRoom, most_commands, unapplied}
use Rattle.std.proofs.lemmas.List.Edits.{length-remove}
use Rattle.replay_course.proofs.Lists.{each_remove}
use Rattle.replay_course.proofs.Costs.{commands_served, one_more_times, spare_served, still_within, undecided_served}
use Rattle.replay_course.proofs.SoundCourse.{FramedHeld, FramedUp, Needs}
use Rattle.replay_course.proofs.ShownPasses.{HasRun, serve_shown}
use Rattle.replay_course.proofs.EventsTaken.{have_places, quiet_turned}
use Rattle.replay_course.proofs.Versions.{batch_count, before_next, changes_more, length_more, version_more, version_next}
use Rattle.split_answers.proofs.Laws.{replicated_objects_are_declared-updates}
use Rattle.lemmas.proofs.Lists.{each_append, each_got, each_pushed, each_weaker, length_slice_set}
use Rattle.lemmas.proofs.Numbers.{le_trans, same_within}

-- ## A batch

each_told : (x : Inputs) (updates : List Update) → Each (IsUpdateIn x.program x.split) updates → Each (IsUpdateOf (code_for x)) updates
each_told x updates fit = each_weaker _ _ (λ update. replicated_objects_are_declared-updates x.program x.split x.writeback update) updates fit

-- ## What is served

-- the same of the program that the server has
of_program : (x : Inputs) (before after : Server) (frame : List ℕ) (s : Served) → before.program ≡ x.program
    → before.split ≡ x.split → IsServed before frame s after
    → IsServed (record before { program = x.program; split = x.split }) frame s (record after { program = x.program; split = x.split })
of_program x before after frame s p q is = record {
  program = refl;
  split = refl;
  store = is.store ∙ (λ i. served_store (p i) (q i) before.store frame);
  number = is.number;
  down = is.down ∙ (λ i. served_frame (p i) (q i) before.store frame);
  is_frame = subst (λ f. IsFrame 2 (down_layout f x.split) s.down) p (subst (λ y. IsFrame 2 (down_layout before.program y) s.down) q is.is_frame);
  updates = is.updates ∙ (λ i. served_updates (p i) (q i) before.store frame);
  fit = subst (λ f. Each (IsUpdateIn f x.split) s.updates) p (subst (λ y. Each (IsUpdateIn before.program y) s.updates) q is.fit);
  few = subst (λ f. length s.updates ≤ followed_writes f x.split) p (subst (λ y. length s.updates ≤ followed_writes before.program y) q is.few);
  version = is.version;
  told = is.told;
  evaluated = is.evaluated ∙ (λ i. evaluated_steps (p i) (q i));
}

pub served_by : (x : Inputs) (c : Course) (server : Runtime) (frame : List ℕ) (s : Served) → IsSound x c → IsServed (server_of c.server) frame s (server_of server)
    → IsServed (record (server_of c.server) { program = x.program; split = x.split }) frame s (record (server_of server) { program = x.program; split = x.split })
served_by x c server frame s sound is = of_program x (server_of c.server) (server_of server) frame s sound.program sound.split is

serve_sound : (x : Inputs) (c after : Course) (j n : ℕ) (frame : List ℕ) (s : Served) (fate : Fate) → IsSound x c
    → slice_get c.up.items j ≡ Some (n, frame) → IsServed (server_of c.server) frame s (server_of after.server)
    → after ≡ record c { up = after.up; server = after.server; commit = after.commit; fates = after.fates; events = c.events + 1 }
    → after.up.items ≡ remove c.up.items j
    → after.commit ≡ with_output c.commit (record { number = n; need = s.version; frame = s.down }) s.updates
    → after.fates.items ≡ slice_set c.fates.items n fate → IsSound x after
serve_sound x c after j n frame s fate h here served is up commit fates =
    let done = served_by x c after.server frame s h served in
    let output : Output = record { number = n; need = s.version; frame = s.down } in
    let version : after.server.version ≡ version_after c.server.version s.updates = done.version in
    let batches : after.commit.batches ≡ c.commit.batches ++ batch_of s.updates = ap (λ (k : Commit). k.batches) commit in
    let held : after.commit.held ≡ c.commit.held ++ output ∷ [] = ap (λ (k : Commit). k.held) commit in
    let more = length_more c.commit.batches (batch_of s.updates) in
    let less : length after.up.items + 1 ≡ length c.up.items = ap (λ l. length l + 1) up ∙ length-remove c.up.items j (slice_get_within c.up.items j (n, frame) here) in
    let as_many : length after.fates.items ≡ length c.fates.items = ap length fates ∙ length_slice_set c.fates.items n fate in
    subst (IsSound x) (sym is) (record {
      program = served.program ∙ h.program;
      split = served.split ∙ h.split;
      pre_stages = h.pre_stages;
      post_stages = h.post_stages;
      left = h.left;
      up = subst (Each (FramedUp x)) (sym up) (each_remove (FramedUp x) c.up.items j h.up);
      held = subst (Each (FramedHeld x)) (sym held) (each_pushed (FramedHeld x) c.commit.held output h.held done.is_frame);
      down = h.down;
      updates = subst (Each (IsUpdateOf (code_for x))) (sym (ap changes_in batches ∙ changes_more c.commit.batches s.updates))
          (each_append (IsUpdateOf (code_for x)) (changes_in c.commit.batches) s.updates h.updates (each_told x s.updates done.fit));
      writeback = ap (λ (k : Commit). k.writeback) commit ∙ h.writeback;
      order = subst IsInOrder (sym commit) (record {
        acked_within = h.order.acked_within;
        done_within = h.order.done_within;
        sent_within = still_within _ _ _ _ more h.order.sent_within;
      });
      version = version ∙ version_more c.server.version c.commit.batches s.updates h.version ∙ ap versions_in (sym batches);
      needs = subst (Each (Needs after.server.version)) (sym held) (each_pushed (Needs after.server.version) c.commit.held output
          (each_weaker (Needs c.server.version) (Needs after.server.version)
          (λ o k. subst (λ v. o.need ≤ v) (sym version) (before_next c.server.version s.updates o.need k)) c.commit.held h.needs)
          (same_within _ _ done.told));
      within = record {
        idle = let i = h.within.idle in omega arith;
        admitted = subst (λ k. k ≤ length x.packets) (sym as_many) h.within.admitted;
        versions = undecided_served _ _ _ _ _ _ _ _ _ refl less as_many (let next = version_next c.server.version s.updates in omega (arith, version)) h.within.versions;
        commands = commands_served _ _ _ _ _ _ _ _ _ _ _ (ap (λ bs. length (commands_in bs)) batches ∙ more) refl less (ap (λ k. length x.packets - k) as_many)
            (batch_count s.updates (whole x).writes done.few) h.within.commands;
      };
    })

pub serve_turned : (x : Inputs) (c after : Course) (old new : PortState) (j n : ℕ) (frame : List ℕ) (s : Served) → CanGoOn x c old
    → slice_get c.up.items j ≡ Some (n, frame) → IsServed (server_of c.server) frame s (server_of after.server)
    → MadeRoom (unapplied c + length (commands_in (batch_of s.updates))) old new
    → after ≡ record c { up = after.up; server = after.server; commit = after.commit; fates = after.fates; events = c.events + 1 }
    → after.up.items ≡ remove c.up.items j
    → after.commit ≡ with_output c.commit (record { number = n; need = s.version; frame = s.down }) s.updates
    → after.fates.items ≡ slice_set c.fates.items n (fates_of.decided (c.events + 1) s.version (slice_get c.fates.items n))
    → HasAdvanced x (event.Serve j) Did c old after new
serve_turned x c after old new j n frame s going here served made is up commit fates =
    let h = going.sound in
    let done = served_by x c after.server frame s h served in
    let spare : unapplied after ≤ new.spare = subst (λ (k : Commit). length (commands k) - k.done ≤ new.spare) (sym commit)
    (spare_served _ _ _ _ _ (length_more c.commit.batches (batch_of s.updates)) (le_trans _ _ _ h.order.done_within h.order.sent_within) made.spare) in
    let run : HasRun (whole x) c j n frame s.updates after = record {
      is = is;
      here = here;
      up = up;
      store = done.store;
      version = done.version;
      commit = commit ∙ (λ i. with_output c.commit (record { number = n; need = done.told i; frame = done.down i }) s.updates);
      fates = fates ∙ ap (λ v. slice_set c.fates.items n (fates_of.decided (c.events + 1) v (slice_get c.fates.items n))) done.told;
    } in
    quiet_turned x (event.Serve j) Did c after old new going made.kept (serve_sound x c after j n frame s _ h here served is up commit fates) spare
    (ap (λ (z : Course). z.events) is) (λ calls st shown may. refl) (λ events calls st replay shown.
    let was = serve_shown (whole x) (setup_for x) calls st c after j n frame s.updates shown (have_places x events calls st replay.answered) run (sym done.updates) in
    (ap stepped_by (sym was.0), was.1))

-- ## What the calls ask for

count_within : (n : ℕ) (test : ℕ → Bool) → count_below n test ≤ n
count_within zero test = omega arith
count_within (suc n) test = let h = count_within n test in by_test (test n) h
  where
    by_test : (b : Bool) → count_below n test ≤ n → count_below n test + (if b then 1 else 0) ≤ suc n
    by_test true h = omega arith
    by_test false h = omega arith

-- a program within bounds has few writes
pub few_writes : (x : Inputs) → IsSplit x.program x.split x.writeback → (whole x).writes ≤ 4096
few_writes x is =
    let h = count_within (length x.program.code) (λ i. is_followed x.program x.split (step_at x.program i).work) in
    le_trans _ _ _ h is.bounded.few

pub few_updates : (x : Inputs) (c : Course) (port : PortState) (frame : List ℕ) (s : Served) (server : Runtime) → CanGoOn x c port
    → IsServed (server_of c.server) frame s (server_of server) → length s.updates ≤ 4096
few_updates x c port frame s server going is = le_trans _ _ _ (served_by x c server frame s going.sound is).few (few_writes x going.prepared.ready.split)

-- the frame is one of those that went up
pub framed_up : (x : Inputs) (c : Course) (port : PortState) (j n : ℕ) (frame : List ℕ) → CanGoOn x c port
    → slice_get c.up.items j ≡ Some (n, frame) → IsFrame 1 (up_layout (server_of c.server).program (server_of c.server).split) frame
framed_up x c port j n frame going here =
    let framed = each_got (FramedUp x) c.up.items j (n, frame) going.sound.up here in
    subst (λ f. IsFrame 1 (up_layout f (server_of c.server).split) frame) (sym going.sound.program)
    (subst (λ y. IsFrame 1 (up_layout x.program y) frame) (sym going.sound.split) framed)

few_versions : (version u n k : ℕ) → version + u ≤ n → n * k < 2 ^ 32 → 2 ≤ k → version < 2 ^ 32 - 1
few_versions version u n k h few two =
    let same : n ≤ n = omega arith in let twice = mul-le-mul same two in omega arith

-- there are versions left
pub versions_left : (x : Inputs) (c : Course) (port : PortState) → CanGoOn x c port → c.server.version < 2 ^ 32 - 1
versions_left x c port going = few_versions _ _ _ (most_commands x) going.sound.within.versions going.prepared.few (omega arith)

few_commands : (n b p up rest k total : ℕ) → n + (p + up + rest) * k ≤ total → 0 < up → b ≤ k → total < 2 ^ 32 → n + b < 2 ^ 32
few_commands n b p up rest k total h some few all =
    let one : p + up + rest ≡ (p + up + rest - 1) + 1 = omega arith in
    let m = one_more_times (p + up + rest - 1) k in
    let g : n + (p + up + rest - 1) * k + k ≤ total = omega (arith, rw one at h) in
    omega arith

-- and room for the commands of a batch
pub commands_left : (x : Inputs) (c : Course) (port : PortState) (j n : ℕ) (frame : List ℕ) (s : Served) (server : Runtime) → CanGoOn x c port
    → slice_get c.up.items j ≡ Some (n, frame) → IsServed (server_of c.server) frame s (server_of server)
    → length (commands c.commit) + length (commands_in (batch_of s.updates)) < 2 ^ 32
commands_left x c port j n frame s server going here is =
    let less = slice_get_within c.up.items j (n, frame) here in
    few_commands _ _ _ (length c.up.items) _ (most_commands x) _ going.sound.within.commands
    (omega arith) (batch_count s.updates (whole x).writes (served_by x c server frame s going.sound is).few) going.prepared.few
