-- Whether an event applies, by what a course shows.
use Rattle.std.proofs.Common.{◌≡◌, ◌≤◌, ℕ, Bool, true, false, not, ◌&&◌, cond, length, refl, sym, ap, ◌∙◌, inl, inr, Some, None, List, arith}
use Rattle.std.specs.Prelude.{Option, nat_lt, slice_get}
use Rattle.std.specs.Option.{option_map}
use Rattle.std.proofs.lemmas.Bool.{ltb-true}
use Rattle.std.proofs.lemmas.Option.{slice_get-map, slice_get_cases}
use Rattle.writeback_table.specs.declared.command.Command.{Command}
use Rattle.output_commit.specs.Batches.{commands_in, visible}
use Rattle.output_commit.specs.Commit.{Commit, acknowledged, commands, may_release, next}
use Rattle.output_commit.specs.declared.output.Output.{Output}
use Rattle.run_model.specs.declared.event.Event.TheVariants.{Apply, Hold}
use Rattle.replay_state.specs.Answers.{Setup}
use Rattle.replay_state.specs.Journal.{Call}
use Rattle.replay_state.specs.Program.{SplitProgram}
use Rattle.replay_state.specs.State.{State}
use Rattle.replay_state.specs.Step.{applies, may_go, waits}
use Rattle.replay_course.specs.declared.course.Course.{Course}
use Rattle.replay_course.specs.Shown.{IsShown}

-- ---- a command is applied

-- what is next was sent, and stands at its place
next_there : (k : Commit) (command : Command) → next k ≡ Some command
    → (nat_lt k.done k.sent ≡ true) × (slice_get (commands k) k.done ≡ Some command)
next_there k command is =
    elim (nat_lt k.done k.sent) as (λ b. cond b (slice_get (commands k) k.done) None ≡ Some command → (b ≡ true) × (slice_get (commands k) k.done ≡ Some command)) [
      | true ↦ λ there. (refl, there)
      | false ↦ λ there. absurd cc
    ] is

-- where nothing is next, all that was sent is applied
none_next : (k : Commit) → k.sent ≤ length (commands k) → next k ≡ None → nat_lt k.done k.sent ≡ false
none_next k within is =
    elim (nat_lt k.done k.sent) as (λ b. nat_lt k.done k.sent ≡ b → cond b (slice_get (commands k) k.done) None ≡ None → b ≡ false) [
      | true ↦ λ more none. elim (slice_get_cases (commands k) k.done).1 [
        | inl there ↦ absurd cc
        | inr past ↦ absurd (omega (arith, within, past.0, ltb-true k.done k.sent more))
      ]
      | false ↦ λ more none. refl
    ] refl is

pub some_applies : (s : SplitProgram) (setup : Setup) (calls : List Call) (st : State) (c : Course) (command : Command) (b : Bool)
    → IsShown s calls st c → next c.commit ≡ Some command → b ≡ waits c.passes (Some command) → not b ≡ applies setup st Apply
some_applies s setup calls st c command b shown is waits_is =
    let at = next_there c.commit command is in
    let more : nat_lt st.done st.sent ≡ true = sym (λ i. nat_lt (shown.done i) (shown.sent i)) ∙ at.0 in
    let there : slice_get (commands_in st.batches) st.done ≡ Some command = sym (λ i. slice_get (commands_in (shown.batches i)) (shown.done i)) ∙ at.1 in
    ap not waits_is
    ∙ (ap (λ ps. not (waits ps (Some command))) shown.passes
    ∙ (ap (λ o. not (waits st.passes o)) (sym there)
    ∙ ap (λ t. t && not (waits st.passes (slice_get (commands_in st.batches) st.done))) (sym more)))

pub none_applies : (s : SplitProgram) (setup : Setup) (calls : List Call) (st : State) (c : Course)
    → IsShown s calls st c → next c.commit ≡ None → false ≡ applies setup st Apply
none_applies s setup calls st c shown is =
    let all : nat_lt st.done st.sent ≡ false = sym (λ i. nat_lt (shown.done i) (shown.sent i)) ∙ none_next c.commit shown.sent_within is in
    ap (λ t. t && not (waits st.passes (slice_get (commands_in st.batches) st.done))) (sym all)

-- ---- an output goes

goes : (k : Commit) (o : Option Output) → may_release k o ≡ may_go (acknowledged k) (option_map (λ (output : Output). (output.number, output.need)) o)
goes k None = refl
goes k (Some output) = refl

pub release_applies : (s : SplitProgram) (setup : Setup) (calls : List Call) (st : State) (c : Course) (j : ℕ)
    → IsShown s calls st c → may_release c.commit (slice_get c.commit.held j) ≡ applies setup st (Hold j)
release_applies s setup calls st c j shown =
    goes c.commit (slice_get c.commit.held j)
    ∙ (ap (may_go (acknowledged c.commit)) (sym (slice_get-map (λ (output : Output). (output.number, output.need)) c.commit.held j))
    ∙ (λ i. may_go (visible (shown.batches i) (shown.acked i)) (slice_get (shown.held i) j)))
