-- What a course shows after an event.
use Rattle.std.proofs.Common.{◌≡◌, ℕ, ◌+◌, ◌≤◌, Bool, true, false, ltb, List, [], ◌∷◌, ◌++◌, Option, Some, None, inl, inr, refl, sym, ◌∙◌, ap, subst, arith, map, length}
use Rattle.std.specs.Prelude.{slice_get, remove, is_some, not, ◌&&◌, if◌then◌else◌}
use Rattle.std.specs.Option.{option_map}
use Rattle.std.proofs.lemmas.Bool.{and_left, cases_Bool, le-leb, lt-leb, ltb-true, ltb-false}
use Rattle.std.proofs.lemmas.Option.{none-some, slice_get-map}
use Rattle.writeback_table.specs.declared.command.Command.{Command}
use Rattle.output_commit.specs.Commit.{Commit, commands, acknowledged, after_next, after_release, after_send, answer, next}
use Rattle.output_commit.proofs.Laws.{a_batch_takes_up_others}
use Rattle.output_commit.specs.declared.output.Output.{Output}
use Rattle.output_commit.specs.declared.output.Release.TheVariants as release
use Rattle.run_model.specs.declared.event.Event.{Event}
use Rattle.run_model.specs.declared.event.Event.TheVariants as event
use Rattle.packet_fields.specs.declared.packet.Packet.{Packet}
use Rattle.replay_state.specs.Answers.{Answers, Setup}
use Rattle.replay_state.specs.Journal.{Call, CalledCommand, SentUp, asked, asks_command, down_frame, ends_up, frame_in, or_else, over_in, up_answer}
use Rattle.replay_state.specs.Program.{SplitProgram}
use Rattle.output_commit.specs.Batches.{commands_in, fits, merged, visible}
use Rattle.replay_state.specs.declared.pass.Pass.{Pass}
use Rattle.replay_state.specs.State.{State, fate_of}
use Rattle.replay_state.specs.Step.{applies, happens, idled, let_go, may_go, step, tick, waits}
use Rattle.replay_course.specs.declared.course.Course.{Course}
use Rattle.replay_course.specs.Going.{ready_next, unless_waits}
use Rattle.replay_course.specs.Shown.{IsShown}
use Rattle.replay_course.proofs.Lists.{get_removed}
use Rattle.lemmas.proofs.Lists.{get_before_pushed, get_within, map_remove}
use Rattle.std.proofs.lemmas.List.{append-nil, map_push}

-- ---- the server and the outputs that wait stay

abbrev pub number_of : ℕ × List ℕ → ℕ
number_of item = item.0

abbrev pub waiting : Output → ℕ × ℕ
waiting o = (o.number, o.need)

module _ (s : SplitProgram) (calls : List Call) (st : State) (c : Course) (h : IsShown s calls st c) where
  pub up_at : (j : ℕ) (item : ℕ × List ℕ) → slice_get c.up.items j ≡ Some item → slice_get st.up j ≡ Some item.0
  up_at j item here = sym (ap (λ l. slice_get l j) h.up) ∙ slice_get-map number_of c.up.items j ∙ ap (option_map number_of) here

  pub down_at : (j : ℕ) (item : ℕ × List ℕ) → slice_get c.down.items j ≡ Some item → slice_get st.down j ≡ Some item.0
  down_at j item here = sym (ap (λ l. slice_get l j) h.down) ∙ slice_get-map number_of c.down.items j ∙ ap (option_map number_of) here

  pub output_at : (j : ℕ) (o : Output) → slice_get c.commit.held j ≡ Some o → slice_get st.held j ≡ Some (waiting o)
  output_at j o here = sym (ap (λ l. slice_get l j) h.held) ∙ slice_get-map waiting c.commit.held j ∙ ap (option_map waiting) here

-- a state whose server and commands are those of the first
abbrev pub moved : State → State → State
moved st now = record st {
  passes = now.passes;
  up = now.up;
  down = now.down;
  events = now.events;
  idle = now.idle;
  progress = now.progress;
}

pub moved_shown : (s : SplitProgram) (calls all : List Call) (st now : State) (c after : Course) → IsShown s calls st c
    → after ≡ record after { server = c.server; commit = c.commit } → now ≡ moved st now → after.passes ≡ now.passes
    → map number_of after.up.items ≡ now.up
    → ((k : ℕ) (item : ℕ × List ℕ) → slice_get after.up.items k ≡ Some item → up_answer all item.0 ≡ Some (SentUp item.1))
    → ((j n need : ℕ) → slice_get st.held j ≡ Some (n, need) → down_frame s calls st n ≡ down_frame s all now n)
    → map number_of after.down.items ≡ now.down
    → ((k : ℕ) (item : ℕ × List ℕ) → slice_get after.down.items k ≡ Some item → item.1 ≡ down_frame s all now item.0)
    → after.fates.items ≡ map fate_of now.progress → after.events ≡ now.events → after.idle ≡ now.idle → IsShown s all now after
moved_shown s calls all st now c after h course state passes up frames_up frames down frames_down fates events idle =
    subst (λ w. IsShown s all w after) (sym state) (subst (IsShown s all (moved st now)) (sym course) (record {
      passes = passes;
      up = up;
      up_frames = frames_up;
      store = h.store;
      version = h.version;
      batches = h.batches;
      sent = h.sent;
      done = h.done;
      acked = h.acked;
      sent_within = h.sent_within;
      held = h.held;
      held_frames = λ k o e. h.held_frames k o e ∙ frames k o.number o.need (output_at s calls st c h k o e);
      down = down;
      down_frames = frames_down;
      fates = fates;
      events = events;
      idle = idle;
    }))

-- ---- an event that can't apply

pub idle_shown : (s : SplitProgram) (setup : Setup) (a : Answers) (calls : List Call) (st : State) (ev : Event) (c after : Course) → applies setup st ev ≡ false
    → after ≡ record c { events = c.events + 1; idle = c.idle + 1 } → IsShown s calls st c → IsShown s calls (step setup a st ev) after
idle_shown s setup a calls st ev c after may is h =
    let next : step setup a st ev ≡ idled (tick st) = ap (λ (b : Bool). if b then happens setup a (tick st) ev else idled (tick st)) may in
    subst (λ w. IsShown s calls w after) (sym next) (subst (IsShown s calls (idled (tick st))) (sym is)
    (moved_shown s calls calls st (idled (tick st)) c (record c { events = c.events + 1; idle = c.idle + 1 }) h refl refl h.passes h.up h.up_frames
    (λ j n need at. refl) h.down h.down_frames h.fates (ap (λ z. z + 1) h.events) (ap (λ z. z + 1) h.idle)))

-- ---- a command is sent

abbrev pub with_commit : Course → Commit → Course
with_commit c commit = record c { commit = commit; events = c.events + 1 }

pub sent_shown : (s : SplitProgram) (setup : Setup) (a : Answers) (calls : List Call) (st : State) (c : Course) (commit : Commit) → setup.fits ≡ fits c.commit.writeback
    → commit ≡ after_send c.commit → ltb c.commit.sent (length (commands c.commit)) ≡ true → IsShown s calls st c → IsShown s calls (step setup a st event.Send) (with_commit c commit)
sent_shown s setup a calls st c commit same is test h =
    let now : commit ≡ record c.commit { batches = merged (fits c.commit.writeback) c.commit.sent c.commit.batches; sent = c.commit.sent + 1 } = is ∙ (rw test refl) in
    let applies_now : ltb st.sent (length (commands_in st.batches)) ≡ true = (λ i. ltb (sym h.sent i) (length (commands_in (sym h.batches i)))) ∙ test in
    rw applies_now (record {
      passes = h.passes;
      up = h.up;
      up_frames = h.up_frames;
      store = h.store;
      version = h.version;
      batches = ap (λ k. k.batches) now ∙ (λ i. merged (sym same i) (h.sent i) (h.batches i));
      sent = ap (λ k. k.sent) now ∙ ap (λ n. n + 1) h.sent;
      done = ap (λ k. k.done) now ∙ h.done;
      acked = ap (λ k. k.acked) now ∙ h.acked;
      sent_within =
          let l = ltb-true c.commit.sent (length (commands c.commit)) test in
          let more = (a_batch_takes_up_others (fits c.commit.writeback) c.commit.sent c.commit.batches).goes_on l in
          subst (λ (k : Commit). k.sent ≤ length (commands k)) (sym now) (omega arith);
      held = ap (λ (k : Commit). map waiting k.held) now ∙ h.held;
      held_frames = λ j o g. h.held_frames j o (sym (ap (λ (k : Commit). slice_get k.held j) now) ∙ g);
      down = h.down;
      down_frames = h.down_frames;
      fates = h.fates;
      events = ap (λ n. n + 1) h.events;
      idle = h.idle;
    })

-- ---- an output goes, or waits

known_is : (s : SplitProgram) (calls : List Call) (st : State) (c : Course) → IsShown s calls st c → visible st.batches st.acked ≡ acknowledged c.commit
known_is s calls st c h = λ i. visible (sym h.batches i) (sym h.acked i)

held_at : (s : SplitProgram) (calls : List Call) (st : State) (c : Course) (j : ℕ) (o : Option Output) → IsShown s calls st c → slice_get c.commit.held j ≡ o → slice_get st.held j ≡ option_map waiting o
held_at s calls st c j o h g = sym (ap (λ l. slice_get l j) h.held) ∙ slice_get-map waiting c.commit.held j ∙ ap (option_map waiting) g

pub goes : (c : Commit) (o : Option Output) (n : ℕ) (f : List ℕ) → release.Frame n f ≡ answer c o → (out : Output) × (o ≡ Some out) × (ltb (acknowledged c) out.need ≡ false) × (out.number ≡ n) × (out.frame ≡ f)
goes c None n f e = cc
goes c (Some out) n f e = elim (cases_Bool (ltb (acknowledged c) out.need)) [
  | inl t ↦ let bad = (rw t at e) in cc
  | inr t ↦ let is = (rw t at e) in (out, refl, t, cc, cc)
]

pub hold_applies : (s : SplitProgram) (setup : Setup) (calls : List Call) (st : State) (c : Course) (j n : ℕ) (f : List ℕ)
    → release.Frame n f ≡ answer c.commit (slice_get c.commit.held j) → IsShown s calls st c → applies setup st (event.Hold j) ≡ true
hold_applies s setup calls st c j n f ans h =
    let g = goes c.commit (slice_get c.commit.held j) n f ans in
    let st_there : slice_get st.held j ≡ Some (g.0.number, g.0.need) = held_at s calls st c j (Some g.0) h g.1 in
    let known = known_is s calls st c h in
    let low = ltb-false (acknowledged c.commit) g.0.need g.2 in
    ap (may_go (visible st.batches st.acked)) st_there ∙ le-leb g.0.need (visible st.batches st.acked) (omega arith)

pub hold_goes : (s : SplitProgram) (setup : Setup) (a : Answers) (calls : List Call) (st : State) (c after : Course) (j n : ℕ) (f : List ℕ)
    → after ≡ record c { commit = after.commit; down = after.down; events = c.events + 1 } → after.commit ≡ after_release c.commit j (slice_get c.commit.held j)
    → release.Frame n f ≡ answer c.commit (slice_get c.commit.held j) → after.down.items ≡ c.down.items ++ (n, f) ∷ []
    → IsShown s calls st c → IsShown s calls (step setup a st (event.Hold j)) after
hold_goes s setup a calls st c after j n f is commit ans down h =
    let g = goes c.commit (slice_get c.commit.held j) n f ans in
    let out = g.0 in
    let now : after.commit ≡ record c.commit { held = remove c.commit.held j } = commit ∙ ap (after_release c.commit j) g.1 ∙ (rw g.2 refl) in
    let st_there : slice_get st.held j ≡ Some (waiting out) = held_at s calls st c j (Some out) h g.1 in
    let may : may_go (visible st.batches st.acked) (slice_get st.held j) ≡ true = hold_applies s setup calls st c j n f ans h in
    let first : step setup a st (event.Hold j) ≡ let_go (tick st) j (slice_get st.held j) = rw may refl in
    let next = first ∙ ap (let_go (tick st) j) st_there in
    subst (λ w. IsShown s calls w after) (sym next)
    (subst (IsShown s calls (let_go (tick st) j (Some (waiting out)))) (sym (is ∙ (λ i. record c { commit = now i; down = after.down; events = c.events + 1 }))) (record {
      passes = h.passes;
      up = h.up;
      up_frames = h.up_frames;
      store = h.store;
      version = h.version;
      batches = h.batches;
      sent = h.sent;
      done = h.done;
      acked = h.acked;
      sent_within = h.sent_within;
      held = map_remove waiting c.commit.held j ∙ ap (λ l. remove l j) h.held;
      held_frames = λ k o e. let r = get_removed c.commit.held j k o e in h.held_frames r.0 o r.1;
      down = ap (map number_of) down ∙ map_push number_of c.down.items (n, f) ∙ (λ i. h.down i ++ sym g.3 i ∷ []);
      down_frames = λ k item e. elim (get_before_pushed c.down.items (n, f) item k (sym (ap (λ l. slice_get l k) down) ∙ e)) [
        | inl p ↦ subst (λ (z : ℕ × List ℕ). z.1 ≡ down_frame s calls st z.0) p.1 (sym g.4 ∙ h.held_frames j out g.1 ∙ ap (down_frame s calls st) g.3)
        | inr r ↦ h.down_frames k item r
      ];
      fates = h.fates;
      events = ap (λ z. z + 1) h.events;
      idle = h.idle;
    }))

pub stays : (c : Commit) (j : ℕ) (o : Option Output) → ((n : ℕ) (f : List ℕ) → release.Frame n f ≡ answer c o → ⊥)
    → (after_release c j o ≡ c) × (may_go (acknowledged c) (option_map waiting o) ≡ false)
stays c j None h = (refl, refl)
stays c j (Some out) h = elim (cases_Bool (ltb (acknowledged c) out.need)) [
  | inl t ↦ (rw t refl, lt-leb out.need (acknowledged c) (ltb-true (acknowledged c) out.need t))
  | inr t ↦ absurd (h out.number out.frame (rw t refl))
]

pub hold_idles : (s : SplitProgram) (setup : Setup) (calls : List Call) (st : State) (c : Course) (j : ℕ)
    → ((n : ℕ) (f : List ℕ) → release.Frame n f ≡ answer c.commit (slice_get c.commit.held j) → ⊥)
    → IsShown s calls st c → applies setup st (event.Hold j) ≡ false
hold_idles s setup calls st c j never h =
    let st_there = held_at s calls st c j (slice_get c.commit.held j) h refl in
    let known = known_is s calls st c h in
    (λ i. may_go (known i) (st_there i)) ∙ (stays c.commit j (slice_get c.commit.held j) never).1

-- ---- a command goes to the switch

pub next_none : (c : Commit) → c.sent ≤ length (commands c) → None ≡ next c → (ltb c.done c.sent ≡ false) × (after_next c ≡ c)
next_none c within e = elim (cases_Bool (ltb c.done c.sent)) [
  | inl t ↦
      let l = ltb-true c.done c.sent t in
      let none : None ≡ slice_get (commands c) c.done = e ∙ (rw t refl) in
      let there = get_within (commands c) c.done (omega arith) in
      absurd (none-some _ (none ∙ there.1))
  | inr f ↦ (f, rw f refl)
]

up_behind : (calls : List Call) (command : Command) (n : ℕ) → up_answer (calls ++ CalledCommand command ∷ []) n ≡ up_answer calls n
up_behind [] command n = refl
up_behind (call ∷ calls) command n = ap (or_else (ends_up n call)) (up_behind calls command n)

frame_behind : (s : SplitProgram) (calls : List Call) (command : Command) (st : State) (n : ℕ) → down_frame s (calls ++ CalledCommand command ∷ []) st n ≡ down_frame s calls st n
frame_behind s calls command st n = ap (λ u. s.serve_down (over_in (slice_get st.progress n)) (frame_in u)) (up_behind calls command n)

-- what is ready is the next command, where it need not wait
pub ready_is : (passes : List Pass) (k : Commit) (o : Option Command) → k.sent ≤ length (commands k) → o ≡ unless_waits passes (next k)
    → (is_some o ≡ (ltb k.done k.sent && not (waits passes (slice_get (commands k) k.done)))) × (o ≡ (if is_some o then slice_get (commands k) k.done else None))
ready_is passes k o within is = elim (cases_Bool (ltb k.done k.sent)) [
  | inl t ↦
      let there = get_within (commands k) k.done (let l = ltb-true k.done k.sent t in omega arith) in
      by_wait there.0 there.1 t (is ∙ (rw t refl))
  | inr f ↦ let none : o ≡ None = is ∙ (rw f refl) in rw none (sym (and_left _ _ f), refl)
]
  where
    by_wait : (command : Command) → slice_get (commands k) k.done ≡ Some command → ltb k.done k.sent ≡ true → o ≡ unless_waits passes (slice_get (commands k) k.done)
        → (is_some o ≡ (ltb k.done k.sent && not (waits passes (slice_get (commands k) k.done)))) × (o ≡ (if is_some o then slice_get (commands k) k.done else None))
    by_wait command at t is = elim (cases_Bool (waits passes (Some command))) [
      | inl w ↦ let none : o ≡ None = is ∙ ap (unless_waits passes) at ∙ (rw w refl) in rw (none, at, t, w) (refl, refl)
      | inr n ↦ let some : o ≡ Some command = is ∙ ap (unless_waits passes) at ∙ (rw n refl) in rw (some, at, t, n) (refl, refl)
    ]

module _ (s : SplitProgram) (setup : Setup) (calls : List Call) (st : State) (c : Course) (o : Option Command) (h : IsShown s calls st c) (is : o ≡ ready_next c) where
  ready : (is_some o ≡ (ltb c.commit.done c.commit.sent && not (waits c.passes (slice_get (commands c.commit) c.commit.done))))
      × (o ≡ (if is_some o then slice_get (commands c.commit) c.commit.done else None))
  ready = ready_is c.passes c.commit o h.sent_within is

  pub ready_applies : is_some o ≡ applies setup st event.Apply
  ready_applies = ready.0 ∙ (λ i. ltb (h.done i) (h.sent i) && not (waits (h.passes i) (slice_get (commands_in (h.batches i)) (h.done i))))

  ready_at : o ≡ (if is_some o then slice_get (commands_in st.batches) st.done else None)
  ready_at = ready.1 ∙ (λ i. if is_some o then slice_get (commands_in (h.batches i)) (h.done i) else None)

  pub ready_asked : (packets : List Packet) → asks_command o ≡ asked setup s packets calls st event.Apply
  ready_asked packets = by_case (is_some o) refl
    where
      by_case : (b : Bool) → is_some o ≡ b → asks_command o ≡ asked setup s packets calls st event.Apply
      by_case true e =
          let at : o ≡ slice_get (commands_in st.batches) st.done = ready_at ∙ (rw e refl) in
          let may : applies setup st event.Apply ≡ true = sym ready_applies ∙ e in
          ap asks_command at ∙ (rw may refl)
      by_case false e =
          let none : o ≡ None = ready_at ∙ (rw e refl) in
          let may : applies setup st event.Apply ≡ false = sym ready_applies ∙ e in
          ap asks_command none ∙ (rw may refl)

-- the commit goes on where a command is ready
pub next_goes : (passes : List Pass) (k : Commit) (command : Command) → Some command ≡ unless_waits passes (next k)
    → (ltb k.done k.sent ≡ true) × (Some command ≡ next k) × (after_next k ≡ record k { done = k.done + 1 })
next_goes passes k command e = elim (cases_Bool (ltb k.done k.sent)) [
  | inl t ↦ (t, is_next (next k) e, rw t refl)
  | inr f ↦ let none : unless_waits passes (next k) ≡ None = (rw f refl) in absurd (none-some _ (sym none ∙ sym e))
]
  where
    is_next : (o : Option Command) → Some command ≡ unless_waits passes o → Some command ≡ o
    is_next None e = e
    is_next (Some d) e = elim (cases_Bool (waits passes (Some d))) [ inl t ↦ let bad = rw t at e in cc | inr f ↦ rw f at e ]

pub command_goes : (s : SplitProgram) (setup : Setup) (a : Answers) (calls : List Call) (st : State) (c after : Course) (command : Command)
    → after ≡ record c { commit = after.commit; events = c.events + 1 } → Some command ≡ ready_next c → after.commit ≡ after_next c.commit
    → IsShown s calls st c → IsShown s (calls ++ CalledCommand command ∷ []) (step setup a st event.Apply) after
command_goes s setup a calls st c after command is ready commit h =
    let now : after.commit ≡ record c.commit { done = c.commit.done + 1 } = commit ∙ (next_goes c.passes c.commit command ready).2 in
    let may : applies setup st event.Apply ≡ true = sym (ready_applies s setup calls st c (Some command) h ready) in
    let next : step setup a st event.Apply ≡ record (tick st) { done = st.done + 1 } =
    ap (λ (b : Bool). if b then happens setup a (tick st) event.Apply else idled (tick st)) may in
    subst (λ w. IsShown s (calls ++ CalledCommand command ∷ []) w after) (sym next)
    (subst (IsShown s (calls ++ CalledCommand command ∷ []) (record (tick st) { done = st.done + 1 })) (sym (is ∙ (λ i. record c { commit = now i; events = c.events + 1 }))) (record {
      passes = h.passes;
      up = h.up;
      up_frames = λ k item e. up_behind calls command item.0 ∙ h.up_frames k item e;
      store = h.store;
      version = h.version;
      batches = h.batches;
      sent = h.sent;
      done = ap (λ n. n + 1) h.done;
      acked = h.acked;
      sent_within = h.sent_within;
      held = h.held;
      held_frames = λ k o e. h.held_frames k o e ∙ sym (frame_behind s calls command st o.number);
      down = h.down;
      down_frames = λ k item e. h.down_frames k item e ∙ sym (frame_behind s calls command st item.0);
      fates = h.fates;
      events = ap (λ z. z + 1) h.events;
      idle = h.idle;
    }))

pub no_command : (s : SplitProgram) (setup : Setup) (a : Answers) (calls : List Call) (st : State) (c after : Course)
    → after ≡ record c { events = c.events + 1; idle = c.idle + 1 } → None ≡ ready_next c
    → IsShown s calls st c → IsShown s (calls ++ []) (step setup a st event.Apply) after
no_command s setup a calls st c after is none h =
    subst (λ cs. IsShown s cs (step setup a st event.Apply) after) (sym (append-nil calls))
    (idle_shown s setup a calls st event.Apply c after (sym (ready_applies s setup calls st c None h none)) is h)
