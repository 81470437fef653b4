-- What the world takes at the place of a frame that was delivered is that frame.
use Rattle.std.proofs.Common.{◌≡◌, ◌⊎◌, ◌<◌, ◌≤◌, ◌+◌, ℕ, zero, suc, Bool, true, false, not, cond, List, [], ◌∷◌, ◌++◌, length, get_or, map, refl, sym, ap, ◌∙◌, subst, inl, inr, Option, Some, None, arith, append-nil}
use Rattle.std.specs.Prelude.{◌==◌, unwrap_or, nat_lt, position, remove, slice_get, slice_set}
use Rattle.std.specs.List.{filter, range_with_len}
use Rattle.std.proofs.lemmas.Bool.{cond-true, eq-eqb, eqb-true, ltb-true}
use Rattle.std.proofs.lemmas.List.{drop_at, length_push, map_push}
use Rattle.packet_fields.specs.declared.verdict.Verdict.{Verdict}
use Rattle.lossy_link.specs.Laws.{IsFaithful}
use Rattle.lossy_link.specs.Link.{Link, is_among}
use Rattle.lossy_link.specs.Sender.{item_at}
use Rattle.run_model.specs.declared.event.Event.{Event}
use Rattle.run_model.specs.declared.event.Event.TheVariants.{Admit, Serve, Hold, Down}
use Rattle.run_model.specs.declared.link_event.Link.{Link as LinkName}
use Rattle.run_model.specs.declared.link_event.Link.TheVariants as names
use Rattle.state_store.specs.Store.{Store}
use Rattle.writeback_table.specs.declared.command.Update.{Update}
use Rattle.replay_state.proofs.Laws.{passes_with_no_stages_end_at_once-fast as fast_step, passes_with_no_stages_end_at_once-slow as slow_step}
use Rattle.replay_state.specs.Answers.{Answers, Setup}
use Rattle.replay_state.specs.Journal.{over_in}
use Rattle.replay_state.specs.Places.{HavePlaces}
use Rattle.replay_state.specs.State.{Fast, Held, Progress, Slow, State, Up, seen, store_at}
use Rattle.replay_state.specs.Step.{applies, came_down, decided, entered, ended, happens, pass_of, released, served, step, tick, with_changes}
use Rattle.lossy_replay.specs.Linked.{World, Linked, TakeWhatCame, arrived, at_link, behind, gives, gone_on, place_in, place_of, standing, without}
use Rattle.lossy_replay.specs.Linking.{AreLinks, ArePlaced, StillStand}
use Rattle.lossy_replay.specs.Ways.{IsWay}
use Rattle.lossy_replay.specs.declared.links.Links.{Links}
use Rattle.lossy_replay.specs.declared.way.Way.{Way}
use Rattle.lossy_replay.proofs.Apart.{filter_apart, goes_at}
use Rattle.lossy_replay.proofs.Items.{admitted_only, entered_only, let_go_only, none_behind}
use Rattle.lossy_replay.proofs.NotedItems.{applied_step, has_given}
use Rattle.lossy_replay.proofs.OnWays.{not_gone, stands_too}
use Rattle.lossy_replay.proofs.EventPerformed.{IsAs, admits, after_event, lets_go, serves, takes}
use Rattle.lossy_replay.proofs.PlacesOnWays.{one_stands, placed, range_apart}
use Rattle.std.proofs.lemmas.List.Quantifiers.{position-Some}
use Rattle.std.proofs.lemmas.Option.{slice_get-get_or, slice_get_within}
use Rattle.lossy_link.proofs.Among.{contained}
use Rattle.replay_course.proofs.Lists.{get_removed}
use Rattle.lemmas.proofs.Lists.{get_front, get_pushed, get_mapped, get_within, map_get, map_remove}

-- ---- items by their numbers

-- the items that weren't taken, in order
abbrev named : List (List ℕ) → List ℕ → List (List ℕ)
named items gone = map (λ (n : ℕ). item_at items n) (without gone (range_with_len 0 (length items)))

item_front : (items more : List (List ℕ)) (n : ℕ) → n < length items → item_at (items ++ more) n ≡ item_at items n
item_front items more n inside = ap (λ (o : Option (List ℕ)). unwrap_or o []) (get_front items more n inside)

item_last : (items : List (List ℕ)) (item : List ℕ) → item_at (items ++ item ∷ []) (length items) ≡ item
item_last items item = ap (λ (o : Option (List ℕ)). unwrap_or o []) (get_pushed items item)

named_front : (p : ℕ → Bool) (a n : ℕ) (items more : List (List ℕ)) → a + n ≤ length items
    → map (λ (k : ℕ). item_at (items ++ more) k) (filter p (range_with_len a n)) ≡ map (λ (k : ℕ). item_at items k) (filter p (range_with_len a n))
named_front p a zero items more few = refl
named_front p a (suc n) items more few =
    let rest = named_front p (a + 1) n items more (omega (arith, few)) in
    let here = item_front items more a (omega (arith, few)) in
    let ks = filter p (range_with_len (a + 1) n) in
    elim (p a) as (λ (b : Bool). map (λ (k : ℕ). item_at (items ++ more) k) (cond b (a ∷ ks) ks) ≡ map (λ (k : ℕ). item_at items k) (cond b (a ∷ ks) ks)) [
      | true ↦ (λ i. here i ∷ rest i)
      | false ↦ rest
    ]

-- one item more stands last
named_push : (items : List (List ℕ)) (gone : List ℕ) (item : List ℕ) → is_among gone (length items) ≡ false
    → named (items ++ item ∷ []) gone ≡ named items gone ++ item ∷ []
named_push items gone item apart =
    let f : ℕ → List ℕ = λ k. item_at (items ++ item ∷ []) k in
    let long : length (items ++ item ∷ []) ≡ suc (length items) = omega (arith, length_push items item) in
    let front = named_front (λ k. not (is_among gone k)) 0 (length items) items (item ∷ []) (omega arith) in
    ap (λ (k : ℕ). map f (without gone (range_with_len 0 k))) long
    ∙ (ap (map f) (one_stands gone (length items) apart)
    ∙ (map_push f (without gone (range_with_len 0 (length items))) (length items)
    ∙ (λ i. front i ++ item_last items item i ∷ [])))

-- where at most one packet more stands behind those before
one_more : (f : ℕ → List ℕ) (items : List (List ℕ)) (gone before now : List ℕ) → is_among gone (length items) ≡ false
    → (now ≡ before) ⊎ ((n : ℕ) × (now ≡ before ++ n ∷ [])) → map f before ≡ named items gone
    → map f now ≡ named (items ++ map f (behind before now)) gone
one_more f items gone before now apart (inl same) placed =
    let none : items ++ map f (behind before before) ≡ items =
    ap (λ (ns : List ℕ). items ++ map f ns) (none_behind before) ∙ append-nil items in
    subst (λ (ns : List ℕ). map f ns ≡ named (items ++ map f (behind before ns)) gone) (sym same)
    (placed ∙ ap (λ (its : List (List ℕ)). named its gone) (sym none))
one_more f items gone before now apart (inr (n, more)) placed =
    let one : items ++ map f (behind before (before ++ n ∷ [])) ≡ items ++ f n ∷ [] =
    ap (λ (ns : List ℕ). items ++ map f ns) (drop_at before (n ∷ []) (length before) refl) in
    subst (λ (ns : List ℕ). map f ns ≡ named (items ++ map f (behind before ns)) gone) (sym more)
    (map_push f before n ∙ ((λ i. placed i ++ f n ∷ []) ∙ (sym (named_push items gone (f n) apart)
    ∙ ap (λ (its : List (List ℕ)). named its gone) (sym one))))

-- ---- one that is taken

position_there : (xs : List ℕ) (n place : ℕ) → position (λ m. m == n) xs ≡ Some place → slice_get xs place ≡ Some n
position_there xs n place is =
    let at = position-Some (λ m. m == n) xs place 0 is in
    slice_get-get_or xs place 0 at.0 ∙ ap (λ (m : ℕ). Some m) (eqb-true (get_or xs place 0) n at.1)

-- the number that was delivered, with its place
place_is : (l : Link) (gone : List ℕ) (o : Option ℕ) (place : ℕ) → place_in (standing l gone) o ≡ Some place
    → (number : ℕ) × (o ≡ Some number) × (slice_get (standing l gone) place ≡ Some number)
place_is l gone None place is = absurd cc
place_is l gone (Some number) place is = (number, refl, position_there (standing l gone) number place is)

one_less : (f : ℕ → List ℕ) (l : Link) (gone before : List ℕ) (j place : ℕ) → place_of l gone j ≡ Some place
    → map f before ≡ named l.items gone → map f (remove before place) ≡ named l.items (gone_on gone (slice_get (arrived l gone) j))
one_less f l gone before j place is placed =
    let number = place_is l gone (slice_get (arrived l gone) j) place is in
    let g : ℕ → List ℕ = λ k. item_at l.items k in
    subst (λ (o : Option ℕ). map f (remove before place) ≡ named l.items (gone_on gone o)) (sym number.1)
    (map_remove f before place ∙ (ap (λ (fs : List (List ℕ)). remove fs place) placed
    ∙ (sym (map_remove g (standing l gone) place)
    ∙ ap (map g) (goes_at gone (range_with_len 0 (length l.items)) place number.0 (range_apart 0 (length l.items)) number.2))))

-- ---- what is delivered there

among_at : (xs : List ℕ) (n : ℕ) → is_among xs n ≡ true → (k : ℕ) × (slice_get xs k ≡ Some n)
among_at xs n is = let c = contained xs n is in (c.0, slice_get-get_or xs c.0 n c.1 ∙ ap (λ (m : ℕ). Some m) c.2)

-- a frame that was delivered and not taken, with its place
found_at : (f : ℕ → List ℕ) (l : Link) (gone before : List ℕ) → StillStand l gone → map f before ≡ named l.items gone → (j number : ℕ)
    → slice_get (arrived l gone) j ≡ Some number
    → (place n : ℕ) × (place_of l gone j ≡ Some place) × (slice_get before place ≡ Some n) × (f n ≡ item_at l.items number)
found_at f l gone before stand placed_so j number at =
    let there = among_at (standing l gone) number (stand j number at) in
    let apart = filter_apart (λ k. not (is_among gone k)) (range_with_len 0 (length l.items)) (range_apart 0 (length l.items)) in
    let is : place_of l gone j ≡ Some there.0 =
    ap (place_in (standing l gone)) at ∙ placed (standing l gone) there.0 number apart there.1 in
    let came = get_mapped f before there.0 (item_at l.items number)
    (ap (λ (fs : List (List ℕ)). slice_get fs there.0) placed_so ∙ map_get (λ (k : ℕ). item_at l.items k) (standing l gone) there.0 number there.1) in
    (there.0, came.0, is, came.1, came.2)

pub takes_what_came : (w : World) (l : Linked) → ArePlaced w l → TakeWhatCame w l
takes_what_came w l are = record {
  up = found_at w.up l.up l.ran (w.at l.events).up are.stand_up are.up;
  down = found_at (w.down (w.at l.events)) l.down l.taken (w.at l.events).down are.stand_down are.down;
}

-- what the links deliver stands there
stand_by : (l : Link) (gone : List ℕ) (way : Way) → IsWay l gone way → StillStand l gone
stand_by l gone way is = λ j number at. stands_too l gone j number (subst IsFaithful is.link is.at_work.faithful) at

-- ---- an event of a link

-- what was given, and which of it was run or taken, is as it was
pub record KeepsGiven (l new : Linked) : Type 0 where
  pub events : new.events ≡ l.events
  pub ran : new.ran ≡ l.ran
  pub taken : new.taken ≡ l.taken
  pub up : new.up.items ≡ l.up.items
  pub down : new.down.items ≡ l.down.items
  pub ctl : new.ctl.items ≡ l.ctl.items
  pub ack : new.ack.items ≡ l.ack.items

-- a change of one link that leaves its items
pub keeps_given : (change : Link → Link) → ((l : Link) → (change l).items ≡ l.items) → (l : Linked) (name : LinkName)
    → KeepsGiven l (at_link change l name)
keeps_given change stays l names.Up =
    record { events = refl; ran = refl; taken = refl; up = stays l.up; down = refl; ctl = refl; ack = refl }
keeps_given change stays l names.Down =
    record { events = refl; ran = refl; taken = refl; up = refl; down = stays l.down; ctl = refl; ack = refl }
keeps_given change stays l names.Ctl =
    record { events = refl; ran = refl; taken = refl; up = refl; down = refl; ctl = stays l.ctl; ack = refl }
keeps_given change stays l names.Ack =
    record { events = refl; ran = refl; taken = refl; up = refl; down = refl; ctl = refl; ack = stays l.ack }

pub placed_still : (w : World) (l new : Linked) → KeepsGiven l new → (n : ℕ) (links : Links) → AreLinks n new links → ArePlaced w l → ArePlaced w new
placed_still w l new k n links are placed = record {
  up = ap (λ (es : List Event). map w.up (w.at es).up) k.events ∙ (placed.up ∙ sym (λ i. named (k.up i) (k.ran i)));
  down = ap (λ (es : List Event). map (w.down (w.at es)) (w.at es).down) k.events ∙ (placed.down ∙ sym (λ i. named (k.down i) (k.taken i)));
  stand_up = stand_by new.up new.ran links.up are.up;
  stand_down = stand_by new.down new.taken links.down are.down;
}

-- ---- an event of the world

changes_only : (store : Store) (updates : List Update) (st : State)
    → (let next = with_changes store updates st in next ≡ record st { version = next.version; stores = next.stores; batches = next.batches })
changes_only store [] st = refl
changes_only store (u ∷ updates) st = refl

served_up : (a : Answers) (st : State) (k : ℕ) (o : Option ℕ) (n : ℕ) → o ≡ Some n → (served a st k o).up ≡ remove st.up k
served_up a st k None n is = absurd cc
served_up a st k (Some m) n is = ap (λ (s : State). remove s.up k) (changes_only (a.after st.store m) (a.changes st.store m) st)

served_down : (a : Answers) (st : State) (k : ℕ) (o : Option ℕ) → (served a st k o).down ≡ st.down
served_down a st k None = refl
served_down a st k (Some m) = ap (λ (s : State). s.down) (changes_only (a.after st.store m) (a.changes st.store m) st)

came_down_up : (setup : Setup) (a : Answers) (st : State) (k : ℕ) (o : Option ℕ) → (came_down setup a st k o).up ≡ st.up
came_down_up setup a st k None = refl
came_down_up setup a st k (Some n) = ap (λ (s : State). s.up) (entered_only a (record st { down = remove st.down k }) st n setup.post_stages)

came_down_down : (setup : Setup) (a : Answers) (st : State) (k : ℕ) (o : Option ℕ) (n : ℕ) → o ≡ Some n
    → (came_down setup a st k o).down ≡ remove st.down k
came_down_down setup a st k None n is = absurd cc
came_down_down setup a st k (Some m) n is = ap (λ (s : State). s.down) (entered_only a (record st { down = remove st.down k }) st m setup.post_stages)

-- What an event that is performed does to the frames on their way.
pub record IsPerformed (setup : Setup) (a : Answers) (l : Linked) (st : State) (own : Event) : Type 0 where
  pub pre : setup.pre_stages ≡ 0
  pub post : setup.post_stages ≡ 0
  pub may : applies setup st own ≡ true
  pub links : Links
  pub most : ℕ
  pub are : AreLinks most l links

there_of : (ns : List ℕ) (k : ℕ) → nat_lt k (length ns) ≡ true → (n : ℕ) × (slice_get ns k ≡ Some n)
there_of ns k inside = get_within ns k (ltb-true k (length ns) inside)

-- ---- the frames on their way down

map_same : (f g : ℕ → List ℕ) (ns : List ℕ) → ((i n : ℕ) → slice_get ns i ≡ Some n → f n ≡ g n) → map f ns ≡ map g ns
map_same f g [] same = refl
map_same f g (n ∷ ns) same = (λ i. same 0 n refl i ∷ map_same f g ns (λ k m is. same (suc k) m is) i)

-- the frames that go down stay as they are, of each packet that is still on its way
abbrev pub FramesStay : World → State → State → Type 0
FramesStay w st next = (i j n : ℕ) → slice_get st.down i ≡ Some n → slice_get next.down j ≡ Some n → w.down next n ≡ w.down st n

-- where none comes or goes
none_moves : (w : World) (st next : State) (items : List (List ℕ)) (gone : List ℕ) → FramesStay w st next → next.down ≡ st.down
    → map (w.down st) st.down ≡ named items gone → map (w.down next) next.down ≡ named items gone
none_moves w st next items gone stay same placed =
    ap (map (w.down next)) same
    ∙ (map_same (w.down next) (w.down st) st.down
    (λ i n is. stay i i n is (ap (λ (ns : List ℕ). slice_get ns i) same ∙ is)) ∙ placed)

-- ---- what the server ran a packet over stays with it

-- a change of one packet that leaves it as it is where it is held
held_set : (f : Option Progress → Progress) (xs : List Progress) (m n : ℕ) (x : Progress) → f (Some x) ≡ x → slice_get xs n ≡ Some x
    → slice_get (slice_set xs m (f (slice_get xs m))) n ≡ Some x
held_set f [] m n x keeps is = absurd cc
held_set f (y ∷ xs) zero zero x keeps is = ap (λ (o : Option Progress). Some (f o)) is ∙ ap (λ (p : Progress). Some p) keeps
held_set f (y ∷ xs) (suc m) (suc n) x keeps is = held_set f xs m n x keeps is
held_set f (y ∷ xs) m n x keeps is = is

-- a packet that is held after another was released, or it itself
held_after : (verdict : Store → Verdict) (event : ℕ) (xs : List Progress) (m n e d v e' d' v' : ℕ) (over other : Store)
    → slice_get xs n ≡ Some (Held e d v over)
    → slice_get (slice_set xs m (released verdict event (slice_get xs m))) n ≡ Some (Held e' d' v' other) → other ≡ over
held_after verdict event (y ∷ xs) zero zero e d v e' d' v' over other is then =
    let slow : Some (Slow e d v (verdict over) event) ≡ Some (Held e' d' v' other) =
    sym (ap (λ (o : Option Progress). Some (released verdict event o)) is) ∙ then in
    absurd cc
held_after verdict event (y ∷ xs) (suc m) (suc n) e d v e' d' v' over other is then =
    held_after verdict event xs m n e d v e' d' v' over other is then
held_after verdict event xs m n e d v e' d' v' over other is then = cc

-- so its store is the same
one_over : (xs : List Progress) (n e d v e' d' v' : ℕ) (over other : Store) → slice_get xs n ≡ Some (Held e d v over)
    → slice_get xs n ≡ Some (Held e' d' v' other) → other ≡ over
one_over xs n e d v e' d' v' over other is then = cc

admit_progress : (setup : Setup) (a : Answers) (st : State) (o : Option Verdict) → setup.pre_stages ≡ 0
    → applies setup st Admit ≡ true → a.pre (store_at st.stores (seen st)) (length st.progress) ≡ o
    → (x : Progress) × ((step setup a st Admit).progress ≡ st.progress ++ x ∷ [])
admit_progress setup a st (Some y) none may is =
    (Fast (st.events + 1) (st.events + 1) (seen st) y, ap (λ (s : State). s.progress) (fast_step setup a st y none may is))
admit_progress setup a st None none may is = (Up (st.events + 1), ap (λ (s : State). s.progress) (slow_step setup a st none may is))

served_holds : (a : Answers) (st : State) (k : ℕ) (o : Option ℕ) (n e d v : ℕ) (over : Store) → slice_get st.progress n ≡ Some (Held e d v over)
    → slice_get (served a st k o).progress n ≡ Some (Held e d v over)
served_holds a st k None n e d v over is = is
served_holds a st k (Some m) n e d v over is =
    let next = with_changes (a.after st.store m) (a.changes st.store m) st in
    held_set (decided next.events next.version st.store) next.progress m n (Held e d v over) refl
    (ap (λ (s : State). slice_get s.progress n) (changes_only (a.after st.store m) (a.changes st.store m) st) ∙ is)

came_down_holds : (setup : Setup) (a : Answers) (st : State) (k : ℕ) (o : Option ℕ) (n e d v e' d' v' : ℕ) (over other : Store)
    → setup.post_stages ≡ 0 → slice_get st.progress n ≡ Some (Held e d v over)
    → slice_get (came_down setup a st k o).progress n ≡ Some (Held e' d' v' other) → other ≡ over
came_down_holds setup a st k None n e d v e' d' v' over other none is then = one_over st.progress n e d v e' d' v' over other is then
came_down_holds setup a st k (Some m) n e d v e' d' v' over other none is then =
    let first : State = record st { down = remove st.down k } in
    let pass = pass_of st false m setup.post_stages in
    let ends : (entered a first pass).progress
    ≡ slice_set st.progress m (released (λ (o : Store). a.post o m) st.events (slice_get st.progress m)) =
    ap (λ (s : State). s.progress)
    (cond-true (setup.post_stages == 0) (ended a first pass) (record first { passes = first.passes ++ pass ∷ [] }) (eq-eqb setup.post_stages 0 none)) in
    held_after (λ (o : Store). a.post o m) st.events st.progress m n e d v e' d' v' over other is
    (ap (λ (ps : List Progress). slice_get ps n) (sym ends) ∙ then)

-- ---- event by event

module _ (setup : Setup) (a : Answers) (l : Linked) (st : State) where
  stepped : {own : Event} → IsPerformed setup a l st own → step setup a st own ≡ happens setup a (tick st) own
  stepped {own = own} p = applied_step setup a st own p.may

  placed_up : (w : World) {event own : Event} → IsAs l event own → IsPerformed setup a l st own → map w.up st.up ≡ named l.up.items l.ran
      → map w.up (step setup a st own).up ≡ named (gives w l event st (step setup a st own)).up.items (gives w l event st (step setup a st own)).ran
  placed_up w admits p placed =
      one_more w.up l.up.items l.ran st.up (step setup a st Admit).up (not_gone l.up l.ran p.links.up p.are.up)
      (has_given setup a l st admits p.pre p.may) placed
  placed_up w (serves j k at) p placed =
      let there = there_of st.up k p.may in
      ap (λ (s : State). map w.up s.up) (stepped p)
      ∙ (ap (map w.up) (served_up a (tick st) k (slice_get st.up k) there.0 there.1) ∙ one_less w.up l.up l.ran st.up j k at placed)
  placed_up w (lets_go j) p placed =
      ap (λ (s : State). map w.up s.up) (stepped p ∙ let_go_only (tick st) j (slice_get st.held j)) ∙ placed
  placed_up w (takes j k at) p placed =
      ap (λ (s : State). map w.up s.up) (stepped p) ∙ (ap (map w.up) (came_down_up setup a (tick st) k (slice_get st.down k)) ∙ placed)
  placed_up w kind p placed = ap (λ (s : State). map w.up s.up) (stepped p) ∙ placed

  placed_down : (w : World) {event own : Event} → IsAs l event own → IsPerformed setup a l st own
      → FramesStay w st (step setup a st own) → map (w.down st) st.down ≡ named l.down.items l.taken
      → map (w.down (step setup a st own)) (step setup a st own).down
      ≡ named (gives w l event st (step setup a st own)).down.items (gives w l event st (step setup a st own)).taken
  placed_down w admits p stay placed =
      none_moves w st (step setup a st Admit) l.down.items l.taken stay
      (ap (λ (s : State). s.down) (admitted_only setup a st _ p.pre p.may refl)) placed
  placed_down w (serves j k at) p stay placed =
      none_moves w st (step setup a st (Serve k)) l.down.items l.taken stay
      (ap (λ (s : State). s.down) (stepped p) ∙ served_down a (tick st) k (slice_get st.up k)) placed
  placed_down w (lets_go j) p stay placed =
      let next = step setup a st (Hold j) in
      let more = has_given setup a l st (lets_go j) p.pre p.may in
      let still : map (w.down next) st.down ≡ map (w.down st) st.down =
      map_same (w.down next) (w.down st) st.down
      (λ i n is. stay i i n is (ap (λ (ns : List ℕ). slice_get ns i) more.1 ∙ get_front st.down (more.0 ∷ []) i (slice_get_within st.down i n is) ∙ is)) in
      one_more (w.down next) l.down.items l.taken st.down next.down (not_gone l.down l.taken p.links.down p.are.down) (inr more) (still ∙ placed)
  placed_down w (takes j k at) p stay placed =
      let next = step setup a st (Down k) in
      let there = there_of st.down k p.may in
      let down : next.down ≡ remove st.down k =
      ap (λ (s : State). s.down) (stepped p) ∙ came_down_down setup a (tick st) k (slice_get st.down k) there.0 there.1 in
      ap (map (w.down next)) down
      ∙ (map_same (w.down next) (w.down st) (remove st.down k)
      (λ i n is. let was = get_removed st.down k i n is in stay was.0 i n was.1 (ap (λ (ns : List ℕ). slice_get ns i) down ∙ is))
      ∙ one_less (w.down st) l.down l.taken st.down j k at placed)
  placed_down w {own = own} kind p stay placed =
      none_moves w st (step setup a st own) l.down.items l.taken stay (ap (λ (s : State). s.down) (stepped p)) placed

  pub placed_on : (w : World) (event own : Event) → IsAs l event own → IsPerformed setup a l st own
      → w.at l.events ≡ st → w.at (l.events ++ own ∷ []) ≡ step setup a st own → FramesStay w st (step setup a st own)
      → (n : ℕ) (links : Links) → AreLinks n (gives w l event st (step setup a st own)) links → ArePlaced w l
      → ArePlaced w (after_event (gives w l event st (step setup a st own)) l own)
  placed_on w event own kind p now then stay n links are placed =
      let next = step setup a st own in
      let g = gives w l event st next in
      record {
        up = subst (λ (s : State). map w.up s.up ≡ named g.up.items g.ran) (sym then)
            (placed_up w kind p (subst (λ (s : State). map w.up s.up ≡ named l.up.items l.ran) now placed.up));
        down = subst (λ (s : State). map (w.down s) s.down ≡ named g.down.items g.taken) (sym then)
            (placed_down w kind p stay (subst (λ (s : State). map (w.down s) s.down ≡ named l.down.items l.taken) now placed.down));
        stand_up = stand_by g.up g.ran links.up are.up;
        stand_down = stand_by g.down g.taken links.down are.down;
      }

  over_stays : {event own : Event} → IsAs l event own → IsPerformed setup a l st own
      → (n e d v e' d' v' : ℕ) (over other : Store) → slice_get st.progress n ≡ Some (Held e d v over)
      → slice_get (step setup a st own).progress n ≡ Some (Held e' d' v' other) → other ≡ over
  over_stays admits p n e d v e' d' v' over other is then =
      let more = admit_progress setup a st (a.pre (store_at st.stores (seen st)) (length st.progress)) p.pre p.may refl in
      one_over (step setup a st Admit).progress n e d v e' d' v' over other
      (ap (λ (ps : List Progress). slice_get ps n) more.1 ∙ get_front st.progress (more.0 ∷ []) n (slice_get_within st.progress n _ is) ∙ is) then
  over_stays (serves j k at) p n e d v e' d' v' over other is then =
      one_over (step setup a st (Serve k)).progress n e d v e' d' v' over other
      (ap (λ (s : State). slice_get s.progress n) (stepped p) ∙ served_holds a (tick st) k (slice_get st.up k) n e d v over is) then
  over_stays (lets_go j) p n e d v e' d' v' over other is then =
      one_over (step setup a st (Hold j)).progress n e d v e' d' v' over other
      (ap (λ (s : State). slice_get s.progress n) (stepped p ∙ let_go_only (tick st) j (slice_get st.held j)) ∙ is) then
  over_stays (takes j k at) p n e d v e' d' v' over other is then =
      came_down_holds setup a (tick st) k (slice_get st.down k) n e d v e' d' v' over other p.post is
      (sym (ap (λ (s : State). slice_get s.progress n) (stepped p)) ∙ then)
  over_stays {own = own} kind p n e d v e' d' v' over other is then =
      one_over (step setup a st own).progress n e d v e' d' v' over other (ap (λ (s : State). slice_get s.progress n) (stepped p) ∙ is) then

  pub frames_stay : (event own : Event) → IsAs l event own → IsPerformed setup a l st own
      → (w : World) (go : Store → ℕ → List ℕ) → ((s : State) (n : ℕ) → w.down s n ≡ go (over_in (slice_get s.progress n)) n)
      → HavePlaces st → HavePlaces (step setup a st own) → FramesStay w st (step setup a st own)
  frames_stay event own kind p w go so was now i j n here there =
      let next = step setup a st own in
      let old = was.down i n here in
      let new = now.down j n there in
      let same = over_stays kind p n old.0 old.1 old.2 new.0 new.1 new.2 old.3 new.3 old.4 new.4 in
      so next n ∙ (ap (λ (o : Option Progress). go (over_in o) n) new.4 ∙ (ap (λ (o : Store). go o n) same
      ∙ (sym (ap (λ (o : Option Progress). go (over_in o) n) old.4) ∙ sym (so st n))))
