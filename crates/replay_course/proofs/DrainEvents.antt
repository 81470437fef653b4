-- The events that end a run, one after the other.
use Rattle.std.proofs.Common.{◌≡◌, ◌<◌, ◌≤◌, ◌+◌, ◌-◌, ◌*◌, ◌^◌, ℕ, suc, Bool, true, false, List, [], ◌∷◌, ◌++◌, Option, Some, None, inl, inr, refl, sym, ap, subst, ◌∙◌, arith, length, map}
use Rattle.std.specs.Prelude.{find, slice_get, nat_le, nat_lt, not, ◌&&◌, ◌==◌, if◌then◌else◌}
use Rattle.std.proofs.lemmas.Bool.{cases_Bool, le-leb, lt-ltb}
use Rattle.std.proofs.lemmas.Bool.Decides.{nat_tests}
use Rattle.std.proofs.lemmas.List.{append-nil, append_assoc, length-map, length_push}
use Rattle.std.proofs.lemmas.Option.{none-some, same_Some}
use Rattle.writeback_table.specs.declared.command.Command.{Command}
use Rattle.output_commit.specs.declared.output.Output.{Output}
use Rattle.run_model.specs.declared.event.Event.{Event}
use Rattle.run_model.specs.declared.event.Event.TheVariants.{Admit, Stage, Serve, Send, Apply, Ack, Hold, Down}
use Rattle.switch_ir.specs.Port.{PortState}
use Rattle.replay_state.specs.Drain.{drain_order, events_left, first_of, next_event, packet_events, pass_events, up_events, weight}
use Rattle.replay_state.specs.Journal.{Call}
use Rattle.output_commit.specs.Batches.{commands_in, visible}
use Rattle.output_commit.specs.Commit.{commands}
use Rattle.replay_state.specs.declared.pass.Pass.{Pass}
use Rattle.replay_state.specs.State.{State, fate_of}
use Rattle.replay_state.specs.Step.{applies, may_go, state_of, step, waits}
use Rattle.replay_contracts.proofs.Laws.{a_drain_ends, a_drain_goes_on-begins, a_drain_goes_on-more, a_replay_goes_on}
use Rattle.replay_state.proofs.Laws.{a_run_is_answered_by_its_calls-state_stays, drain_ends-falls, whole_runs_are_sound-few_answered}
use Rattle.replay_contracts.specs.Inputs.{Inputs, setup_for, whole}
use Rattle.replay_contracts.specs.Replay.{HasPicked, answered}
use Rattle.replay_contracts.specs.declared.job.Stepped.{Stepped}
use Rattle.replay_course.specs.declared.course.Course.{Course}
use Rattle.replay_course.specs.Going.{HasAdvanced, CanGoOn, IsPrepared, IsSound, MayCall}
use Rattle.replay_course.specs.Shown.{IsShown}
use Rattle.replay_course.specs.UnderWay.{Drains, IsDraining, HasReplayedSome, course_left}
use Rattle.replay_course.specs.Idle.{finds_nothing}
use Rattle.replay_course.proofs.ToldByCalls.{stays_all, stays_more}
use Rattle.replay_course.proofs.Room.{is_split_program, may_call}
use Rattle.replay_course.proofs.SoundCourse.{Needs}
use Rattle.replay_course.proofs.Versions.{visible_past}
use Rattle.lemmas.proofs.Lists.{each_got}

-- ## What drain picks

same_if : {X : Type 0} (b c : Bool) (e r q : X) → b ≡ c → (b ≡ false → r ≡ q) → (if b then e else r) ≡ (if c then e else q)
same_if true c e r q same rest = ap (λ z. if z then e else r) same ∙ taken c (sym same)
  where
    taken : (z : Bool) → z ≡ true → (if z then e else r) ≡ (if z then e else q)
    taken true t = refl
    taken false t = cc
same_if false c e r q same rest = rest refl ∙ ap (λ z. if z then e else q) same

-- where no pass is under way, no command waits
none_waits : (passes : List Pass) (o : Option Command) → nat_lt 0 (length passes) ≡ false → waits passes o ≡ false
none_waits [] None e = refl
none_waits [] (Some command) e = refl
none_waits (p ∷ passes) o e = let bad : true ≡ false = sym (lt-ltb 0 (suc (length passes)) (omega arith)) ∙ e in cc

past : (a b : ℕ) → not (nat_le a b) ≡ nat_lt b a
past a b = grind (arith, nat_tests)

differ : (a b : ℕ) → a ≤ b → not (a == b) ≡ nat_lt a b
differ a b within = grind (arith, nat_tests)

same : (a b : ℕ) → not (a == b) ≡ false → a ≡ b
same a b is = grind (arith, nat_tests)

and_true : (b c : Bool) → c ≡ true → (b && c) ≡ b
and_true true c h = h
and_true false c h = refl

pub map_length : {X Y : Type 0} (f : X → Y) (xs : List X) (ys : List Y) → map f xs ≡ ys → length xs ≡ length ys
map_length f xs ys e = sym (length-map xs f) ∙ ap length e

module _ (x : Inputs) (calls : List Call) (st : State) (c : Course) (plain : IsPrepared x) (sound : IsSound x c) (h : IsShown (whole x) calls st c) where
  -- the first held output may go, where every command is acknowledged
  known_is : not (c.commit.acked == c.commit.done) ≡ false → not (c.commit.done == c.commit.sent) ≡ false → not (c.commit.sent == length (commands c.commit)) ≡ false
      → c.server.version ≡ visible st.batches st.acked
  known_is a b d =
      let acked = same _ _ a in
      let done = same _ _ b in
      let sent = same _ _ d in
      sound.version ∙ sym (visible_past c.commit.batches c.commit.acked (omega arith)) ∙ (λ i. visible (h.batches i) (h.acked i))

  front_goes : (l : List Output) → c.commit.held ≡ l → c.server.version ≡ visible st.batches st.acked
      → nat_lt 0 (length l) ≡ may_go (visible st.batches st.acked) (slice_get (map (λ (o : Output). (o.number, o.need)) l) 0)
  front_goes [] is known = refl
  front_goes (o ∷ l) is known =
      let need : o.need ≤ c.server.version = each_got (Needs c.server.version) c.commit.held 0 o sound.needs (ap (λ q. slice_get q 0) is) in
      lt-ltb 0 (suc (length l)) (omega arith) ∙ sym (le-leb _ _ (subst (λ v. o.need ≤ v) known need))

  pub picked_is : find (λ event. not (finds_nothing (length x.packets) c event)) drain_order ≡ next_event (setup_for x) st
  picked_is =
      same_if _ _ (Some (Stage 0)) _ _ (past _ 0 ∙ ap (λ (l : List Pass). nat_lt 0 (length l)) h.passes) (λ staged.
      let waits = none_waits st.passes _ (ap (λ (l : List Pass). nat_lt 0 (length l)) (sym h.passes) ∙ sym (past _ 0) ∙ staged) in
      same_if _ _ (Some Ack) _ _ (differ _ _ sound.order.acked_within ∙ (λ i. nat_lt (h.acked i) (h.done i))) (λ a.
      same_if _ _ (Some Apply) _ _ (differ _ _ sound.order.done_within ∙ (λ i. nat_lt (h.done i) (h.sent i)) ∙ sym (and_true _ _ (ap not waits))) (λ b.
      same_if _ _ (Some Send) _ _ (differ _ _ sound.order.sent_within ∙ (λ i. nat_lt (h.sent i) (length (commands_in (h.batches i))))) (λ d.
      same_if _ _ (Some (Down 0)) _ _ (past _ 0 ∙ ap (nat_lt 0) (map_length _ c.down.items st.down h.down)) (λ z.
      same_if _ _ (Some (Hold 0)) _ _ (past _ 0 ∙ front_goes c.commit.held refl (known_is a b d) ∙ ap (λ l. may_go (visible st.batches st.acked) (slice_get l 0)) h.held) (λ z.
      same_if _ _ (Some (Serve 0)) _ _ (past _ 0 ∙ ap (nat_lt 0) (map_length _ c.up.items st.up h.up)) (λ z.
      same_if _ _ (Some Admit) _ _ (past _ _ ∙ ap (λ n. nat_lt n (length x.packets)) (ap length h.fates ∙ length-map st.progress fate_of)) (λ z. refl))))))))

-- ## How many events are left

pub left_is : (x : Inputs) (calls : List Call) (st : State) (c : Course) → IsShown (whole x) calls st c → course_left x c ≡ events_left (setup_for x) st
left_is x calls st c h =
    let setup = setup_for x in
    let up = map_length _ c.up.items st.up h.up in
    let held = map_length _ c.commit.held st.held h.held in
    let down = map_length _ c.down.items st.down h.down in
    let fates : length c.fates.items ≡ length st.progress = ap length h.fates ∙ length-map st.progress fate_of in
    λ i. (length x.packets - fates i) * packet_events setup + weight (pass_events setup) (h.passes i)
    + up i * up_events setup + held i * (2 + setup.post_stages) + down i * (1 + setup.post_stages)
    + 3 * (length (commands_in (h.batches i)) - h.sent i) + 2 * (h.sent i - h.done i) + (h.done i - h.acked i)

-- ## One event more

-- what a course picks
abbrev pub PickLaw : Inputs → Course → Option Event → Type 0
PickLaw x c o = (calls : List Call) (st : State) → IsPrepared x → IsSound x c → IsShown (whole x) calls st c → o ≡ next_event (setup_for x) st

pub none_drained : (x : Inputs) (c : Course) (port : PortState) → CanGoOn x c port → IsDraining x 0 c port c port
none_drained x c port going = record {
  going = going;
  stays = stays_all port;
  events = omega arith;
  turns = λ events calls st replay shown. record {
    more = [];
    others = [];
    last = st;
    picked = subst (λ cs. HasPicked x events [] cs st port) (sym (append-nil calls)) (a_drain_goes_on-begins x events calls st port replay);
    shown = subst (λ cs. IsShown (whole x) cs st c) (sym (append-nil calls)) shown;
    counted = refl;
  };
}

pub drains_more : (x : Inputs) (count : ℕ) (event : Event) (stepped : Stepped) (c mid after : Course) (old port new : PortState)
    → IsDraining x count c old mid port → PickLaw x mid (Some event) → HasAdvanced x event stepped mid port after new → IsDraining x (count + 1) c old after new
drains_more x count event stepped c mid after old port new draining picks turned = record {
  going = turned.going;
  stays = stays_more old port new draining.stays turned.stays;
  events = let a = turned.counted in let b = draining.events in omega arith;
  turns = λ events calls st replay shown.
      let on = draining.turns events calls st replay shown in
      let now = on.picked.replay in
      let t = turned.turns (events ++ on.more) (calls ++ on.others) on.last now on.shown in
      let picked_so = sym (picks (calls ++ on.others) on.last draining.going.prepared draining.going.sound on.shown) in
      let after_one = a_replay_goes_on x (events ++ on.more) event (calls ++ on.others) t.one on.last port new draining.going.prepared.ready now t.asks t.called in
      let all = a_drain_goes_on-more x events on.more event (calls ++ on.others) t.one on.last _ port new on.picked picked_so turned.stays.told after_one in
      let same = append_assoc calls on.others t.one in
      let next = step (setup_for x) (answered x ((calls ++ on.others) ++ t.one)) on.last event in
      record {
        more = on.more ++ event ∷ [];
        others = on.others ++ t.one;
        last = next;
        picked = subst (λ cs. HasPicked x events (on.more ++ event ∷ []) cs next new) same all;
        shown = subst (λ cs. IsShown (whole x) cs next after) same t.shown;
        counted = length_push on.more event ∙ ap (λ n. n + 1) on.counted;
      };
}

pub has_drained : (x : Inputs) (count : ℕ) (c after : Course) (old new : PortState) → IsDraining x count c old after new
    → PickLaw x after None → Drains x count c old after new
has_drained x count c after old new draining picks = record {
  going = draining.going;
  stays = draining.stays;
  events = draining.events;
  turns = λ events calls st replay shown.
      let on = draining.turns events calls st replay shown in
      record {
        on = on;
        drained = a_drain_ends x events on.more (calls ++ on.others) on.last new draining.going.prepared.ready on.picked
            (sym (picks (calls ++ on.others) on.last draining.going.prepared draining.going.sound on.shown));
      };
}

-- ## An event that is picked leaves fewer

first_applies : (test : Event → Bool) (xs : List Event) (event : Event) → first_of test xs ≡ Some event → test event ≡ true
first_applies test [] event e = absurd (none-some _ e)
first_applies test (y ∷ xs) event e = elim (cases_Bool (test y)) [
  | inl t ↦ let is : y ≡ event = same_Some _ _ ((rw t at e)) in subst (λ z. test z ≡ true) is t
  | inr f ↦ first_applies test xs event (rw f at e)
]

pub left_falls : (x : Inputs) (count : ℕ) (event : Event) (stepped : Stepped) (c mid after : Course) (old port new : PortState)
    → HasReplayedSome x c old → IsDraining x count c old mid port → PickLaw x mid (Some event) → HasAdvanced x event stepped mid port after new
    → course_left x after < course_left x mid
left_falls x count event stepped c mid after old port new way draining picks turned =
    let on = draining.turns way.events way.under_way.calls way.under_way.st way.under_way.replay way.under_way.shown in
    let now = on.picked.replay in
    let events = way.events ++ on.more in
    let calls = way.under_way.calls ++ on.others in
    let t = turned.turns events calls on.last now on.shown in
    let setup = setup_for x in
    let a = answered x (calls ++ t.one) in
    let picked_so : next_event setup on.last ≡ Some event = sym (picks calls on.last draining.going.prepared draining.going.sound on.shown) in
    let may = first_applies (applies setup on.last) drain_order event picked_so in
    let is : on.last ≡ state_of setup a events = a_run_is_answered_by_its_calls-state_stays setup (whole x) x.packets events calls t.one on.last now.answered in
    let less : events_left setup (step setup a on.last event) < events_left setup on.last =
    subst (λ w. events_left setup (step setup a w event) < events_left setup w) (sym is)
    (drain_ends-falls setup a events event (whole_runs_are_sound-few_answered (whole x) x.packets x.manner (calls ++ t.one) (is_split_program x draining.going.prepared.ready)) (subst (λ w. applies setup w event ≡ true) is may)) in
    subst (λ n. n < course_left x mid) (sym (left_is x (calls ++ t.one) _ after t.shown))
    (subst (λ n. events_left setup (step setup a on.last event) < n) (sym (left_is x calls on.last mid on.shown)) less)

pub drain_room : (x : Inputs) (count : ℕ) (c mid : Course) (old port : PortState) → HasReplayedSome x c old → IsDraining x count c old mid port → MayCall x mid port
drain_room x count c mid old port way draining =
    let on = draining.turns way.events way.under_way.calls way.under_way.st way.under_way.replay way.under_way.shown in
    may_call x (way.events ++ on.more) (way.under_way.calls ++ on.others) on.last mid port on.picked.replay on.shown draining.going

-- what a loop keeps beside: the events so far and those that are left
pub few_drained : (x : Inputs) (count : ℕ) (c mid : Course) (old port : PortState) → IsDraining x count c old mid port → count + course_left x mid ≤ course_left x c
    → c.events + course_left x c < 2 ^ 32 - 1 → mid.events < 2 ^ 32 - 1
few_drained x count c mid old port draining left few = let e = draining.events in omega arith
