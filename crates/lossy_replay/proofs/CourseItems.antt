-- What an event gives to the links is what the course has then.
use Rattle.std.proofs.Common.{◌≡◌, ◌≤◌, ◌+◌, ◌-◌, ℕ, suc, List, [], ◌∷◌, ◌++◌, length, map, drop, refl, sym, ap, ◌∙◌, Some, arith, append-nil}
use Rattle.std.specs.Prelude.{nat_lt, slice_get}
use Rattle.std.proofs.lemmas.Bool.{cond-false, cond-true, le-ltb, lt-ltb}
use Rattle.std.proofs.lemmas.List.{drop_at, length-map, length_push}
use Rattle.run_model.specs.declared.link_event.LinkEvent.{LinkEvent}
use Rattle.replay_state.specs.Answers.{Setup}
use Rattle.lossy_replay.specs.Linked.{World, Linked, behind, linked_step, linked_steps}
use Rattle.lossy_replay.specs.Linking.{newest}

-- ---- a schedule with one event more

pub one_event_more : (setup : Setup) (w : World) (l : Linked) (schedule : List LinkEvent) (event : LinkEvent)
    → linked_steps setup w l (schedule ++ event ∷ []) ≡ linked_step setup w (linked_steps setup w l schedule) event
one_event_more setup w l [] event = refl
one_event_more setup w l (first ∷ schedule) event = one_event_more setup w (linked_step setup w l first) schedule event

-- ---- answers stay

-- ---- the frame that stands last

abbrev Items : Type 0
Items = List (ℕ × List ℕ)

last_of : (items : Items) (front : List ℕ) (n : ℕ) → map (λ item. item.0) items ≡ front ++ n ∷ []
    → (frame : List ℕ) × (slice_get items (length front) ≡ Some (n, frame)) × (drop (length items - 1) items ≡ (n, frame) ∷ [])
last_of [] [] n is = absurd cc
last_of [] (x ∷ front) n is = absurd cc
last_of (item ∷ []) [] n is =
    let same : item.0 ≡ n = cc in
    (item.1, ap (λ (k : ℕ). Some (k, item.1)) same, ap (λ (k : ℕ). (k, item.1) ∷ []) same)
last_of (item ∷ other ∷ items) [] n is = absurd cc
last_of (item ∷ []) (x ∷ front) n is = absurd (omega (arith, ap (λ (l : List ℕ). length l) is, length_push front n))
last_of (item ∷ other ∷ items) (x ∷ front) n is =
    let rest : map (λ (i : ℕ × List ℕ). i.0) (other ∷ items) ≡ front ++ n ∷ [] = cc in
    let behind = last_of (other ∷ items) front n rest in
    let count : length (item ∷ other ∷ items) - 1 ≡ suc (length (other ∷ items) - 1) = omega arith in
    (behind.0, behind.1, ap (λ (k : ℕ). drop k (item ∷ other ∷ items)) count ∙ behind.2)

-- none more stands there
pub none_newer : (w_up : ℕ → List ℕ) (items : Items) (before : List ℕ) → map (λ item. item.0) items ≡ before
    → newest (length before) items ≡ map w_up (behind before before)
none_newer w_up items before is =
    let long : length items ≡ length before = sym (length-map items (λ (i : ℕ × List ℕ). i.0)) ∙ ap (λ (l : List ℕ). length l) is in
    let none : behind before before ≡ [] = ap (drop (length before)) (sym (append-nil before)) ∙ drop_at before [] (length before) refl in
    cond-false (nat_lt (length before) (length items)) (map (λ (i : ℕ × List ℕ). i.1) (drop (length items - 1) items)) []
    (le-ltb (length before) (length items) (omega (arith, long)))
    ∙ sym (ap (map w_up) none)

-- the frame of one more
pub one_newer : (w_up : ℕ → List ℕ) (items : Items) (before : List ℕ) (least n : ℕ) → least ≤ length before
    → map (λ item. item.0) items ≡ before ++ n ∷ []
    → ((j : ℕ) (item : ℕ × List ℕ) → slice_get items j ≡ Some item → w_up item.0 ≡ item.1)
    → newest least items ≡ map w_up (behind before (before ++ n ∷ []))
one_newer w_up items before least n few is frames =
    let last = last_of items before n is in
    let long : length items ≡ length before + 1 = sym (length-map items (λ (i : ℕ × List ℕ). i.0)) ∙ (ap (λ (l : List ℕ). length l) is ∙ length_push before n) in
    let behind_is : behind before (before ++ n ∷ []) ≡ n ∷ [] = drop_at before (n ∷ []) (length before) refl in
    cond-true (nat_lt least (length items)) (map (λ (i : ℕ × List ℕ). i.1) (drop (length items - 1) items)) []
    (lt-ltb least (length items) (omega (arith, long, few)))
    ∙ (ap (map (λ (i : ℕ × List ℕ). i.1)) last.2
    ∙ (ap (λ (frame : List ℕ). frame ∷ []) (sym (frames (length before) (n, last.0) last.1)) ∙ sym (ap (map w_up) behind_is)))
