-- An event of the world over the links: performed, or not.
use Rattle.std.proofs.Common.{◌≡◌, ℕ, Bool, true, false, cond, [], ◌∷◌, ◌++◌, length, refl, subst, ap, ◌∙◌, Option, Some, None}
use Rattle.std.specs.Prelude.{nat_lt}
use Rattle.std.proofs.lemmas.Bool.{cond-false, cond-true}
use Rattle.run_model.specs.declared.event.Event.{Event}
use Rattle.run_model.specs.declared.event.Event.TheVariants.{Admit, Stage, Serve, Send, Apply, Ack, Hold, Down}
use Rattle.run_model.specs.declared.link_event.LinkEvent.TheVariants.{World as InWorld}
use Rattle.replay_state.specs.Answers.{Setup}
use Rattle.replay_state.specs.State.{State}
use Rattle.replay_state.specs.Step.{applies}
use Rattle.lossy_replay.specs.Linked.{World, Linked, at_place, gives, let_by, linked_step, performed, performed_if, place_of}

-- ---- what an event is performed as

-- as itself, or at the place in the world of the frame that it takes
pub data IsAs (l : Linked) : Event → Event → Type 0 where
  admits : IsAs l Admit Admit
  serves : (j k : ℕ) → place_of l.up l.ran j ≡ Some k → IsAs l (Serve j) (Serve k)
  sends : IsAs l Send Send
  does_next : IsAs l Apply Apply
  acks : IsAs l Ack Ack
  lets_go : (j : ℕ) → IsAs l (Hold j) (Hold j)
  takes : (j k : ℕ) → place_of l.down l.taken j ≡ Some k → IsAs l (Down j) (Down k)

where_some : (b : Bool) (event own : Event) → cond b (Some event) None ≡ Some own → event ≡ own
where_some true event own is = cc
where_some false event own is = absurd cc

placed_as : (event : ℕ → Event) (o : Option ℕ) (own : Event) → at_place event o ≡ Some own → (k : ℕ) × (o ≡ Some k) × (event k ≡ own)
placed_as event None own is = absurd cc
placed_as event (Some k) own is = (k, refl, cc)

pub is_as : (l : Linked) (st : State) (event own : Event) → let_by l st event ≡ Some own → IsAs l event own
is_as l st Admit own is = let same : Admit ≡ own = cc in subst (IsAs l Admit) same admits
is_as l st (Stage j) own is = absurd cc
is_as l st (Serve j) own is =
    let at = placed_as Serve (place_of l.up l.ran j) own is in subst (IsAs l (Serve j)) at.2 (serves j at.0 at.1)
is_as l st Send own is = let same : Send ≡ own = cc in subst (IsAs l Send) same sends
is_as l st Apply own is = subst (IsAs l Apply) (where_some (nat_lt st.done (length l.ctl.got)) Apply own is) does_next
is_as l st Ack own is = subst (IsAs l Ack) (where_some (nat_lt st.acked (length l.ack.got)) Ack own is) acks
is_as l st (Hold j) own is = let same : Hold j ≡ own = cc in subst (IsAs l (Hold j)) same (lets_go j)
is_as l st (Down j) own is =
    let at = placed_as Down (place_of l.down l.taken j) own is in subst (IsAs l (Down j)) at.2 (takes j at.0 at.1)

-- ---- performed, or not

abbrev pub after_event : Linked → Linked → Event → Linked
after_event given l own = record given { events = l.events ++ own ∷ [] }

-- the links let it happen as this event, which applies
pub performs : (setup : Setup) (w : World) (l : Linked) (event own : Event) (st next : State) → w.at l.events ≡ st
    → w.at (l.events ++ own ∷ []) ≡ next → let_by l st event ≡ Some own → applies setup st own ≡ true
    → linked_step setup w l (InWorld event) ≡ after_event (gives w l event st next) l own
performs setup w l event own st next now then is may =
    ap (λ (s : State). performed_if setup w l event (let_by l s event)) now
    ∙ (ap (performed_if setup w l event) is
    ∙ (cond-true (applies setup (w.at l.events) own) (performed w l event own) l (ap (λ (s : State). applies setup s own) now ∙ may)
    ∙ (λ i. after_event (gives w l event (now i) (then i)) l own)))

-- they don't
pub not_let : (setup : Setup) (w : World) (l : Linked) (event : Event) (st : State) → w.at l.events ≡ st
    → let_by l st event ≡ None → linked_step setup w l (InWorld event) ≡ l
not_let setup w l event st now is =
    ap (λ (s : State). performed_if setup w l event (let_by l s event)) now ∙ ap (performed_if setup w l event) is

-- it doesn't apply
pub not_applied : (setup : Setup) (w : World) (l : Linked) (event own : Event) (st : State) → w.at l.events ≡ st
    → let_by l st event ≡ Some own → applies setup st own ≡ false → linked_step setup w l (InWorld event) ≡ l
not_applied setup w l event own st now is fails =
    ap (λ (s : State). performed_if setup w l event (let_by l s event)) now
    ∙ (ap (performed_if setup w l event) is
    ∙ cond-false (applies setup (w.at l.events) own) (performed w l event own) l (ap (λ (s : State). applies setup s own) now ∙ fails))
