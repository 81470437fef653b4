-- What stands in a course stands after each event.
use Rattle.std.proofs.Common.{◌≡◌, ◌<◌, ◌≤◌, ◌+◌, ◌-◌, ◌*◌, ℕ, suc, false, ltb, List, [], ◌∷◌, ◌++◌, Some, inl, inr, refl, sym, ◌∙◌, ap, subst, arith, length}
use Rattle.std.specs.Prelude.{slice_get, slice_set, remove}
use Rattle.std.specs.List.{AllByRecursion as Each}
use Rattle.std.proofs.lemmas.Bool.{cases_Bool, ltb-true}
use Rattle.split_model.specs.Layouts.{down_layout, up_layout}
use Rattle.transfer_header.specs.Frames.{IsFrame}
use Rattle.output_commit.specs.Batches.{commands_in, fits}
use Rattle.output_commit.specs.Commit.{Commit, IsInOrder, after_acknowledge, after_next, after_send, commands, first}
use Rattle.output_commit.proofs.Laws.{a_batch_takes_up_others}
use Rattle.output_commit.specs.Laws.{changes_in, versions_in}
use Rattle.output_commit.specs.declared.output.Output.{Output}
use Rattle.run_model.specs.declared.fate.Fate.{Fate}
use Rattle.server_runtime.specs.Views.{server_of}
use Rattle.switch_ir.specs.Port.{IsUpdateOf}
use Rattle.replay_state.specs.declared.pass.Pass.{Pass}
use Rattle.replay_contracts.specs.Inputs.{Inputs, code_for, setup_for}
use Rattle.replay_course.specs.declared.course.Course.{Course}
use Rattle.replay_course.specs.Going.{IsSound, IsWithin, TakesOneMore, most_commands, undecided}
use Rattle.replay_course.proofs.PassCounts.{before_server, push_at_most, push_behind}
use Rattle.replay_course.proofs.Lists.{each_remove}
use Rattle.replay_course.proofs.Costs.{admitted_undecided, commands_after, commands_fall, fewer_undecided, first_within, less_by_one, one_more_undecided, versions_stay}
use Rattle.lemmas.proofs.Lists.{each_got, each_pushed, length_slice_set}
use Rattle.lemmas.proofs.Numbers.{same_within}
use Rattle.std.proofs.lemmas.List.{length_push}

-- the frames of a course have the layouts of their ways
abbrev pub FramedUp : Inputs → ℕ × List ℕ → Type 0
FramedUp x item = IsFrame 1 (up_layout x.program x.split) item.1

abbrev pub FramedDown : Inputs → ℕ × List ℕ → Type 0
FramedDown x item = IsFrame 2 (down_layout x.program x.split) item.1

abbrev pub FramedHeld : Inputs → Output → Type 0
FramedHeld x o = IsFrame 2 (down_layout x.program x.split) o.frame

abbrev pub Needs : ℕ → Output → Type 0
Needs version o = o.need ≤ version

-- a pass that is under way has stages left
abbrev pub HasLeft : Pass → Type 0
HasLeft pass = 0 < pass.left

-- ## Counts

-- where no more packets aren't decided, and the server stays
pub fewer_within : (x : Inputs) (c after : Course) → IsWithin x c → length after.fates.items ≤ length x.packets
    → undecided x after ≤ undecided x c → after.server.version ≡ c.server.version
    → length (commands after.commit) ≤ length (commands c.commit) → after.idle ≤ after.events → IsWithin x after
fewer_within x c after h admitted less version fewer idle = record {
  idle = idle;
  admitted = admitted;
  versions = subst (λ v. v + undecided x after ≤ length x.packets) (sym version) (versions_stay _ _ _ _ less h.versions);
  commands = commands_fall _ _ _ _ fewer (commands_after _ _ _ _ _ less h.commands);
}

pub within_by : (x : Inputs) (c after : Course) → IsWithin x c → before_server after.passes ≤ before_server c.passes
    → length after.up.items ≡ length c.up.items → length after.fates.items ≡ length c.fates.items → after.server.version ≡ c.server.version
    → length (commands after.commit) ≤ length (commands c.commit) → after.idle ≤ after.events → IsWithin x after
within_by x c after h passes up fates version fewer idle =
    fewer_within x c after h (subst (λ n. n ≤ length x.packets) (sym fates) h.admitted)
    (fewer_undecided _ _ _ _ _ _ _ passes up fates) version fewer idle

-- where one packet more isn't decided, for which there is room
pub more_within : (x : Inputs) (c after : Course) → IsWithin x c → TakesOneMore x c → length after.fates.items ≡ length c.fates.items
    → undecided x after ≤ suc (undecided x c) → after ≡ record after { server = c.server; commit = c.commit; events = c.events; idle = c.idle } → IsWithin x after
more_within x c after h room fates less is = record {
  idle = subst (λ (z : Course). z.idle ≤ z.events) (sym is) h.idle;
  admitted = subst (λ n. n ≤ length x.packets) (sym fates) h.admitted;
  versions = subst (λ (z : Course). z.server.version + undecided x after ≤ length x.packets) (sym is) (versions_stay _ _ _ _ less room.versions);
  commands = subst (λ (z : Course). length (commands z.commit) + undecided x after * most_commands x ≤ length x.packets * most_commands x) (sym is)
      (commands_after _ _ _ _ _ less room.commands);
}

-- where a packet counts no more among those that aren't decided, there is room for it
pub makes_room : (x : Inputs) (c after : Course) → IsWithin x c → suc (undecided x after) ≤ undecided x c
    → after ≡ record after { server = c.server; commit = c.commit } → TakesOneMore x after
makes_room x c after h less is = record {
  versions = subst (λ (z : Course). z.server.version + suc (undecided x after) ≤ length x.packets) (sym is) (versions_stay _ _ _ _ less h.versions);
  commands = subst (λ (z : Course). length (commands z.commit) + suc (undecided x after) * most_commands x ≤ length x.packets * most_commands x) (sym is)
      (commands_after _ _ _ _ _ less h.commands);
}

-- ## Before any event

pub first_sound : (x : Inputs) (c : Course) → (server_of c.server).program ≡ x.program → (server_of c.server).split ≡ x.split
    → c.pre_stages ≡ (setup_for x).pre_stages → c.post_stages ≡ (setup_for x).post_stages → c.passes ≡ []
    → c.up.items ≡ [] → c.server.version ≡ 0 → c.commit ≡ first x.writeback → c.down.items ≡ [] → c.fates.items ≡ [] → c.events ≡ 0 → c.idle ≡ 0 → IsSound x c
first_sound x c program split pre post passes up version commit down fates events idle = record {
  program = program;
  split = split;
  pre_stages = pre;
  post_stages = post;
  left = subst (Each HasLeft) (sym passes) tt;
  up = subst (Each (FramedUp x)) (sym up) tt;
  held = subst (λ (k : Commit). Each (FramedHeld x) k.held) (sym commit) tt;
  down = subst (Each (FramedDown x)) (sym down) tt;
  updates = subst (λ (k : Commit). Each (IsUpdateOf (code_for x)) (changes_in k.batches)) (sym commit) tt;
  writeback = ap (λ (k : Commit). k.writeback) commit;
  order = subst IsInOrder (sym commit) (record { acked_within = omega arith; done_within = omega arith; sent_within = omega arith });
  version = version ∙ ap (λ (k : Commit). versions_in k.batches) (sym commit);
  needs = subst (λ (k : Commit). Each (Needs c.server.version) k.held) (sym commit) tt;
  within =
      let none : undecided x c ≡ 0 + 0 + (length x.packets - 0) = λ i. before_server (passes i) + length (up i) + (length x.packets - length (fates i)) in
      record {
        idle = omega (arith, idle);
        admitted = subst (λ l. length l ≤ length x.packets) (sym fates) (omega arith);
        versions = subst (λ v. v + undecided x c ≤ length x.packets) (sym version) (subst (λ u. 0 + u ≤ length x.packets) (sym none) (omega arith));
        commands = subst (λ (k : Commit). length (commands k) + undecided x c * most_commands x ≤ length x.packets * most_commands x) (sym commit)
            (subst (λ u. 0 + u * most_commands x ≤ length x.packets * most_commands x) (sym none) (first_within (length x.packets) (most_commands x)));
      };
}

-- ## Events of commands, and idle ones

-- what a call of the commands leaves
pub record CommitAdvances (k k' : Commit) : Type 0 where
  pub order : IsInOrder k'
  pub held : k'.held ≡ k.held
  pub writeback : k'.writeback ≡ k.writeback
  pub changes : changes_in k'.batches ≡ changes_in k.batches
  pub versions : versions_in k'.batches ≡ versions_in k.batches
  pub fewer : length (commands k') ≤ length (commands k)

-- where the server stays, and the outputs that wait
pub moved_sound : (x : Inputs) (c after : Course) → IsSound x c
    → after ≡ record after { pre_stages = c.pre_stages; post_stages = c.post_stages; server = c.server } → CommitAdvances c.commit after.commit
    → Each HasLeft after.passes → Each (FramedUp x) after.up.items → Each (FramedDown x) after.down.items → IsWithin x after → IsSound x after
moved_sound x c after h is on left up down within = subst (IsSound x) (sym is) (record {
  program = h.program;
  split = h.split;
  pre_stages = h.pre_stages;
  post_stages = h.post_stages;
  left = left;
  up = up;
  held = subst (Each (FramedHeld x)) (sym on.held) h.held;
  down = down;
  updates = subst (Each (IsUpdateOf (code_for x))) (sym on.changes) h.updates;
  writeback = on.writeback ∙ h.writeback;
  order = on.order;
  version = h.version ∙ sym on.versions;
  needs = subst (Each (Needs c.server.version)) (sym on.held) h.needs;
  within = subst (IsWithin x) is within;
})

same_on : (k k' : Commit) → k'.batches ≡ k.batches → k'.writeback ≡ k.writeback → k'.held ≡ k.held → IsInOrder k' → CommitAdvances k k'
same_on k k' batches writeback held order = record {
  order = order;
  held = held;
  writeback = writeback;
  changes = ap changes_in batches;
  versions = ap versions_in batches;
  fewer = same_within _ _ (ap (λ bs. length (commands_in bs)) batches);
}

-- commands that stay
still : (k : Commit) → IsInOrder k → CommitAdvances k k
still k h = same_on k k refl refl refl h

pub sent_on : (k : Commit) → IsInOrder k → CommitAdvances k (after_send k)
sent_on k h = elim (cases_Bool (ltb k.sent (length (commands k)))) [
  | inl t ↦
      let less = ltb-true k.sent (length (commands k)) t in
      let is = a_batch_takes_up_others (fits k.writeback) k.sent k.batches in
      let more = is.goes_on less in
      rw t (record {
        order = record {
          acked_within = h.acked_within;
          done_within = let d = h.done_within in omega arith;
          sent_within = omega arith;
        };
        held = refl;
        writeback = refl;
        changes = is.changes;
        versions = is.versions;
        fewer = is.fewer;
      })
  | inr f ↦ rw f (still k h)
]

pub acked_on : (k : Commit) → IsInOrder k → CommitAdvances k (after_acknowledge k)
acked_on k h = elim (cases_Bool (ltb k.acked k.done)) [
  | inl t ↦
      let less = ltb-true k.acked k.done t in
      rw t (same_on k (record k { acked = k.acked + 1 }) refl refl refl (record {
        acked_within = omega arith;
        done_within = h.done_within;
        sent_within = h.sent_within;
      }))
  | inr f ↦ rw f (still k h)
]

pub next_on : (k : Commit) → IsInOrder k → CommitAdvances k (after_next k)
next_on k h = elim (cases_Bool (ltb k.done k.sent)) [
  | inl t ↦
      let less = ltb-true k.done k.sent t in
      rw t (same_on k (record k { done = k.done + 1 }) refl refl refl (record {
        acked_within = let a = h.acked_within in omega arith;
        done_within = omega arith;
        sent_within = h.sent_within;
      }))
  | inr f ↦ rw f (still k h)
]

-- a call of the commands alone
pub commands_sound : (x : Inputs) (c after : Course) (k : Commit) → IsSound x c → CommitAdvances c.commit k → after.commit ≡ k
    → after ≡ record c { commit = after.commit; events = after.events; idle = after.idle } → after.idle ≤ after.events → IsSound x after
commands_sound x c after k h on commit is idle =
    let later : Course = record c { commit = k; events = after.events; idle = after.idle } in
    subst (IsSound x) (sym (is ∙ (λ i. record c { commit = commit i; events = after.events; idle = after.idle })))
    (moved_sound x c later h refl on h.left h.up h.down (within_by x c later h.within (omega arith) refl refl refl on.fewer idle))

pub idle_sound : (x : Inputs) (c after : Course) → IsSound x c → after ≡ record c { events = c.events + 1; idle = c.idle + 1 } → IsSound x after
idle_sound x c after h is =
    let later : Course = record c { events = c.events + 1; idle = c.idle + 1 } in
    subst (IsSound x) (sym is) (commands_sound x c later c.commit h (still c.commit h.order) refl refl (let i = h.within.idle in omega arith))

-- ## Outputs that go

pub hold_sound : (x : Inputs) (c after : Course) (j : ℕ) (output : Output) → IsSound x c → slice_get c.commit.held j ≡ Some output
    → after ≡ record c { commit = record c.commit { held = remove c.commit.held j }; down = after.down; events = c.events + 1 }
    → after.down.items ≡ c.down.items ++ (output.number, output.frame) ∷ [] → IsSound x after
hold_sound x c after j output h here is down = subst (IsSound x) (sym is) (record {
  program = h.program;
  split = h.split;
  pre_stages = h.pre_stages;
  post_stages = h.post_stages;
  left = h.left;
  up = h.up;
  held = each_remove (FramedHeld x) c.commit.held j h.held;
  down = subst (Each (FramedDown x)) (sym down) (each_pushed (FramedDown x) c.down.items (output.number, output.frame) h.down
      (each_got (FramedHeld x) c.commit.held j output h.held here));
  updates = h.updates;
  writeback = h.writeback;
  order = record { acked_within = h.order.acked_within; done_within = h.order.done_within; sent_within = h.order.sent_within };
  version = h.version;
  needs = each_remove (Needs c.server.version) c.commit.held j h.needs;
  within = record {
    idle = let i = h.within.idle in omega arith;
    admitted = h.within.admitted;
    versions = h.within.versions;
    commands = h.within.commands;
  };
})

-- ## Packets that arrive

-- where the commands stay too
carried_sound : (x : Inputs) (c after : Course) → IsSound x c
    → after ≡ record after { pre_stages = c.pre_stages; post_stages = c.post_stages; server = c.server; commit = c.commit }
    → Each HasLeft after.passes → Each (FramedUp x) after.up.items → Each (FramedDown x) after.down.items → IsWithin x after → IsSound x after
carried_sound x c after h is left up down within =
    let later : Course = record after { pre_stages = c.pre_stages; post_stages = c.post_stages; server = c.server; commit = c.commit } in
    subst (IsSound x) (sym is) (moved_sound x c later h refl (still c.commit h.order) left up down (subst (IsWithin x) is within))

-- one is admitted, and is among no others yet
pub admit_sound : (x : Inputs) (c after : Course) (fate : Fate) → IsSound x c → length c.fates.items < length x.packets
    → after ≡ record c { fates = after.fates; events = c.events + 1 } → after.fates.items ≡ c.fates.items ++ fate ∷ []
    → IsSound x after × TakesOneMore x after
admit_sound x c after fate h less is fates =
    let later : Course = record c { fates = after.fates; events = c.events + 1 } in
    let count : length after.fates.items ≡ length c.fates.items + 1 = ap length fates ∙ length_push c.fates.items fate in
    let one : suc (undecided x later) ≤ undecided x c = admitted_undecided _ _ _ _ _ _ _ refl refl count less in
    subst (λ (z : Course). IsSound x z × TakesOneMore x z) (sym is) (
      carried_sound x c later h refl h.left h.up h.down
          (fewer_within x c later h.within (omega arith) (less_by_one _ _ one) refl (omega arith) (let i = h.within.idle in omega arith)),
      makes_room x c later h.within one refl,
    )

-- the switch finishes it, or it is released
pub fate_sound : (x : Inputs) (c after : Course) (n : ℕ) (fate : Fate) → IsSound x c → after ≡ record c { fates = after.fates }
    → after.fates.items ≡ slice_set c.fates.items n fate → IsSound x after
fate_sound x c after n fate h is fates =
    let later : Course = record c { fates = after.fates } in
    subst (IsSound x) (sym is) (carried_sound x c later h refl h.left h.up h.down
    (within_by x c later h.within (omega arith) refl (ap length fates ∙ length_slice_set c.fates.items n fate) refl (omega arith) h.within.idle))

-- it goes up
pub send_up_sound : (x : Inputs) (c after : Course) (n : ℕ) (frame : List ℕ) (fate : Fate) → IsSound x c → TakesOneMore x c
    → IsFrame 1 (up_layout x.program x.split) frame → after ≡ record c { up = after.up; fates = after.fates }
    → after.up.items ≡ c.up.items ++ (n, frame) ∷ [] → after.fates.items ≡ slice_set c.fates.items n fate → IsSound x after
send_up_sound x c after n frame fate h room framed is up fates =
    let later : Course = record c { up = after.up; fates = after.fates } in
    let count : length after.up.items ≡ length c.up.items + 1 = ap length up ∙ length_push c.up.items (n, frame) in
    let f : length after.fates.items ≡ length c.fates.items = ap length fates ∙ length_slice_set c.fates.items n fate in
    subst (IsSound x) (sym is) (carried_sound x c later h refl h.left
    (subst (Each (FramedUp x)) (sym up) (each_pushed (FramedUp x) c.up.items (n, frame) h.up framed)) h.down
    (more_within x c later h.within room f (one_more_undecided _ _ _ _ _ _ _ (omega arith) f) refl))

-- its pass goes last among those under way
pub going_sound : (x : Inputs) (c after : Course) (pass : Pass) → IsSound x c → TakesOneMore x c → 0 < pass.left
    → after ≡ record c { passes = c.passes ++ pass ∷ [] } → IsSound x after
going_sound x c after pass h room left is =
    let later : Course = record c { passes = c.passes ++ pass ∷ [] } in
    let more = push_at_most c.passes pass in
    subst (IsSound x) (sym is) (carried_sound x c later h refl (each_pushed HasLeft c.passes pass h.left left) h.up h.down
    (more_within x c later h.within room refl (one_more_undecided _ _ _ _ _ _ _ (omega arith) refl) refl))

-- ## Packets that come down

pub behind_sound : (x : Inputs) (c after : Course) (pass : Pass) → IsSound x c → pass.pre ≡ false → 0 < pass.left
    → after ≡ record c { passes = c.passes ++ pass ∷ [] } → IsSound x after
behind_sound x c after pass h kind left is =
    let later : Course = record c { passes = c.passes ++ pass ∷ [] } in
    let p : before_server later.passes ≡ before_server c.passes = push_behind c.passes pass kind in
    subst (IsSound x) (sym is) (carried_sound x c later h refl (each_pushed HasLeft c.passes pass h.left left) h.up h.down
    (within_by x c later h.within (omega arith) refl refl refl (omega arith) h.within.idle))

-- ## A pass or a frame is taken out of its list

pub taken_sound : (x : Inputs) (c after : Course) → IsSound x c → after ≡ record c { passes = after.passes; down = after.down; events = c.events + 1 }
    → Each HasLeft after.passes → before_server after.passes ≤ before_server c.passes → Each (FramedDown x) after.down.items → IsSound x after
taken_sound x c after h is left count down =
    let later : Course = record c { passes = after.passes; down = after.down; events = c.events + 1 } in
    subst (IsSound x) (sym is) (carried_sound x c later h refl left h.up down
    (within_by x c later h.within count refl refl refl (omega arith) (let i = h.within.idle in omega arith)))
